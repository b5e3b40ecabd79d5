-- What is known of the numbers in a block that was read.
use Rattle.std.specs.Prelude.{◌≡◌, ◌%◌, true, List, [], All, length, take, drop, ℕ, ◌+◌, ◌*◌, ◌^◌, ◌<◌, ◌≤◌, Option, Some, None, Result, Ok, Err}
use Rattle.exb_capture.specs.declared.fault.FormatFault.{FormatFault}
use Rattle.exb_capture.specs.declared.block.Interface.{Interface}
use Rattle.exb_capture.specs.declared.byte_order.ByteOrder.{ByteOrder}
use Rattle.exb_capture.specs.declared.format.Front.{Front}
use Rattle.exb_capture.specs.declared.format.Front.TheVariants as front
use Rattle.exb_capture.specs.Formats.{Front as Stood}
use Rattle.exb_capture.specs.Formats as stood
use Rattle.exb_capture.specs.Blocks.{Section, is_read, kind_of}
use Rattle.exb_capture.specs.declared.block.BlockHeader.{BlockHeader}
use Rattle.exb_capture.specs.declared.block.BlockContent.{BlockContent}
use Rattle.exb_capture.specs.declared.block.BlockContent.TheVariants.{Skipped, NewSection, NewInterface, Packet}

-- digits, where an option 9 was met that says some
abbrev pub HasDigits : Option (Result ℕ FormatFault) → Type 0
HasDigits None = Unit {0}
HasDigits (Some (Ok digits)) = digits ≤ 9
HasDigits (Some (Err f)) = Unit {0}

abbrev pub HasResolution : Interface → Type 0
HasResolution interface = interface.digits ≤ 9

-- a frame in a block of this size
pub record IsFrameIn (size moment from bytes : ℕ) : Type 0 where
  pub whole : from + bytes ≤ size
  pub in_time : moment < 2 ^ 32 * 1_000_000_000
  pub short : bytes ≤ 262_144

-- an interface that a section with so many others has room for
pub record IsRoomFor (count : ℕ) (interface : Interface) : Type 0 where
  pub digits : interface.digits ≤ 9
  pub few : count < 256

-- what stands in a block of this size, in a section with so many interfaces
abbrev pub IsIn : ℕ → ℕ → BlockContent → Type 0
IsIn size count Skipped = Unit {0}
IsIn size count NewSection = Unit {0}
IsIn size count (NewInterface interface) = IsRoomFor count interface
IsIn size count (Packet seen) = IsFrameIn size seen.moment seen.from seen.bytes

-- a head that may be read on
pub record IsHead (head : BlockHeader) : Type 0 where
  pub some : 12 ≤ head.size
  pub fours : head.size % 4 ≡ 0
  pub most : is_read (kind_of head.kind) ≡ true → head.size ≤ 327_680

-- a whole block that is looked into, in a section of these interfaces, where the record before had this moment
pub record IsReadable (head : BlockHeader) (interfaces : List Interface) (before : ℕ) (block : List ℕ) : Type 0 where
  pub whole : length block ≡ head.size
  pub some : 12 ≤ head.size
  pub fours : head.size % 4 ≡ 0
  pub most : head.size ≤ 327_680
  pub digits : All HasResolution interfaces
  pub last : before < 2 ^ 32 * 1_000_000_000

-- how far pcapng was read, by its parts
pub record IsBlocks (order : Option ByteOrder) (interfaces : List Interface) (last : ℕ) : Type 0 where
  pub none : order ≡ None → interfaces ≡ []
  pub few : length interfaces ≤ 256
  pub digits : All HasResolution interfaces
  pub in_time : last < 2 ^ 32 * 1_000_000_000

abbrev pub section_of : Option ByteOrder → List Interface → Option Section
section_of None interfaces = None
section_of (Some order) interfaces = Some (record { order = order; interfaces = interfaces })

-- what stands at the front of these bytes, in this state
abbrev pub told : {S : Type 0} → Front → S → List ℕ → Stood S
told front.Nothing s held = stood.Nothing
told (front.Short f) s held = stood.Short f
told (front.Bad f) s held = stood.Bad f
told (front.Over n) s held = stood.Over n s
told (front.Holds seen n) s held = stood.Holds (record {
  time = seen.moment;
  bytes = take seen.bytes (drop seen.from held);
}) n s

-- the state is kept, where more decides or there is a fault
abbrev pub Keeps : Front → Type 0 → Type 0
Keeps front.Nothing same = same
Keeps (front.Short f) same = same
Keeps (front.Bad f) same = same
Keeps (front.Over n) same = Unit {0}
Keeps (front.Holds seen n) same = Unit {0}

-- a record at the front of these bytes, all of which are there
pub record IsRecordIn (held : List ℕ) (moment from bytes size : ℕ) : Type 0 where
  pub whole : from + bytes ≤ size
  pub there : size ≤ length held
  pub in_time : moment < 2 ^ 32 * 1_000_000_000
  pub short : bytes ≤ 262_144

abbrev pub IsWithin : List ℕ → Front → Type 0
IsWithin held front.Nothing = Unit {0}
IsWithin held (front.Short f) = Unit {0}
IsWithin held (front.Bad f) = Unit {0}
IsWithin held (front.Over n) = 0 < n
IsWithin held (front.Holds seen n) = IsRecordIn held seen.moment seen.from seen.bytes n

-- This was found at the front of these bytes, and is what stands there. What was read is known from then on; the state
-- is kept where more decides or there is a fault; and a record lies within the bytes.
pub record Shows {S : Type 0} (stood : Stood S) (held : List ℕ) (x : Front) (old new : S) : Type 0 where
  pub value : told x new held ≡ stood
  pub same : Keeps x (new ≡ old)
  pub within : IsWithin held x
