-- pcapng: what stands at the front of what is left, block by block, and the first fault of a block.
use Rattle.std.specs.Prelude.{ℕ, zero, suc, ◌+◌, ◌-◌, ◌*◌, ◌/◌, ◌%◌, ◌^◌, ◌==◌, ◌&&◌, ◌||◌, not, nat_lt, nat_le, nat_eq, min, if◌then◌else◌, Bool, true, false, List, [], ◌∷◌, ◌++◌, length, take, drop, slice_index, get_or, Option, Some, None, Result, Ok, Err}
use Rattle.std.specs.Int.{w32, from_be_bytes}
use Rattle.exb_model.specs.Input.{Record}
use Rattle.exb_capture.specs.declared.fault.FormatFault.{FormatFault}
use Rattle.exb_capture.specs.declared.fault.Flaw.TheVariants.{Version, LinkType, Cut, Length, Time, Magic, TooMany, Resolution, Interface as NoInterface}
use Rattle.exb_capture.specs.declared.block.Interface.{Interface}
use Rattle.exb_capture.specs.declared.block.BlockHeader.{BlockHeader}
use Rattle.exb_capture.specs.declared.block.BlockContent.{BlockContent}
use Rattle.exb_capture.specs.declared.block.BlockContent.TheVariants.{Skipped, NewSection, NewInterface, Packet}
use Rattle.exb_capture.specs.declared.byte_order.ByteOrder.{ByteOrder}
use Rattle.exb_capture.specs.declared.byte_order.ByteOrder.TheVariants.{Big, Little}
use Rattle.exb_capture.specs.Fields.{◌>>=◌, refuse, word, half_word, nanoseconds}
use Rattle.exb_capture.specs.Formats.{Front, Nothing, Short, Bad, Over, Holds, fault, Capture, reading_from, whole}

-- the next multiple of four
abbrev pub padded : ℕ → ℕ
padded n = (n + 3) / 4 * 4

-- what the section in which a block stands has said: the order of its bytes, and its interfaces
pub record Section : Type 0 where
  pub order : ByteOrder
  pub interfaces : List Interface

-- how far a file was read: its section, before the first block none, and the time of the record before, or 0
pub record Sections : Type 0 where
  pub section : Option Section
  pub last : ℕ

-- before the first block
abbrev pub no_section : Sections
no_section = record { section = None; last = 0 }

-- a section header begins with 0A 0D 0D 0A, which is the same in both orders
abbrev pub is_header : List ℕ → Bool
is_header left = from_be_bytes w32 left == 0x0A0D0D0A

-- the order of bytes of the section that this header begins
abbrev pub new_order : List ℕ → Result ByteOrder FormatFault
new_order left =
    if word Big left 8 == 0x1A2B3C4D then Ok Big
    else (if word Little left 8 == 0x1A2B3C4D then Ok Little
    else Err (fault Magic 8))

-- the order of bytes of the section that goes on; before the first block there is none
abbrev pub old_order : Option ByteOrder → Result ByteOrder FormatFault
old_order None = Err (fault Magic 8)
old_order (Some order) = Ok order

abbrev pub order_at : Option ByteOrder → List ℕ → Result ByteOrder FormatFault
order_at old twelve = if is_header twelve then new_order twelve else old_order old

-- what is read of a block
pub data Kind : Type 0 where
  SectionHeader : Kind
  InterfaceBlock : Kind
  EnhancedPacket : Kind
  SimplePacket : Kind
  Other : Kind

-- by the number at its front
abbrev pub kind_of : ℕ → Kind
kind_of n =
    if n == 0x0A0D0D0A then SectionHeader
    else (if n == 1 then InterfaceBlock
    else (if n == 6 then EnhancedPacket
    else (if n == 3 then SimplePacket
    else Other)))

-- the blocks that are looked into, which are held whole
abbrev pub is_read : Kind → Bool
is_read SectionHeader = true
is_read InterfaceBlock = true
is_read EnhancedPacket = true
is_read SimplePacket = true
is_read Other = false

-- ---- the head
-- no size, or more than is held of a block that is looked into
abbrev pub is_no_size : Kind → ℕ → Bool
is_no_size kind size = (nat_lt size 12 || not (size % 4 == 0)) || is_read kind && nat_lt 327_680 size

-- what the first twelve bytes of a block say, in a section of this order
abbrev pub head_at : Option ByteOrder → List ℕ → Result BlockHeader FormatFault
head_at old twelve = do
  order ← order_at old twelve
  sized ← refuse (is_no_size (kind_of (word order twelve 0)) (word order twelve 4)) (fault Length 4)
  Ok (record { order = order; kind = word order twelve 0; size = word order twelve 4 })

-- ---- options
-- what an option 9 says: the digits behind the point of a second
abbrev pub digits_at : ByteOrder → ℕ → List ℕ → Result ℕ FormatFault
digits_at order at block =
    if half_word order block (at + 2) == 1 && nat_le (slice_index block (at + 4)) 9 then Ok (slice_index block (at + 4))
    else Err (fault Resolution at)

-- with the option at this place, where none before it was an option 9
abbrev pub or_option : Option (Result ℕ FormatFault) → ByteOrder → ℕ → List ℕ → Option (Result ℕ FormatFault)
or_option (Some first) order at block = Some first
or_option None order at block = if half_word order block at == 9 then Some (digits_at order at block) else None

-- what the first option 9 says, or 6 digits
abbrev pub or_six : Option (Result ℕ FormatFault) → Result ℕ FormatFault
or_six (Some first) = first
or_six None = Ok 6

-- The options from this place on up to one of code 0 or to where they end, behind those of which the first option 9
-- said this. One that runs past comes before what an option 9 says.
unfoldable pub resolution_within : ℕ → ByteOrder → Option (Result ℕ FormatFault) → ℕ → ℕ → List ℕ → Result ℕ FormatFault
resolution_within zero order first at to block = or_six first
resolution_within (suc n) order first at to block =
    if nat_le to at then or_six first
    else (if half_word order block at == 0 then or_six first
    else (if nat_lt to (at + 4 + half_word order block (at + 2)) then Err (fault Length at)
    else resolution_within n order (or_option first order at block) (at + 4 + padded (half_word order block (at + 2)))
    to block))

-- the same, with as many steps as bytes: an option takes at least four
unfoldable pub resolution_from : ByteOrder → Option (Result ℕ FormatFault) → ℕ → ℕ → List ℕ → Result ℕ FormatFault
resolution_from order first at to block = resolution_within (to - at) order first at to block

-- ---- the blocks, of which all bytes are there
abbrev pub section_at : BlockHeader → List ℕ → Result BlockContent FormatFault
section_at head block = do
  long ← refuse (nat_lt head.size 28) (fault Length 4)
  known ← refuse (not (half_word head.order block 12 == 1)) (fault Version 12)
  Ok NewSection

abbrev pub interface_at : BlockHeader → List Interface → List ℕ → Result BlockContent FormatFault
interface_at head interfaces block = do
  long ← refuse (nat_lt head.size 20) (fault Length 4)
  few ← refuse (nat_le 256 (length interfaces)) (fault TooMany 0)
  digits ← resolution_from head.order None 16 (head.size - 4) block
  Ok (NewInterface (record { link = half_word head.order block 8; snap = word head.order block 12; digits = digits }))

-- where a section has no interface of a number
abbrev pub no_interface : Interface
no_interface = record { link = 0; snap = 0; digits = 0 }

-- the interface of this number
abbrev pub interface_number : List Interface → ℕ → FormatFault → Result Interface FormatFault
interface_number interfaces i none = if nat_lt i (length interfaces) then Ok (get_or interfaces i no_interface) else Err
    none

-- the time of an enhanced packet, in units
abbrev pub units_at : ByteOrder → List ℕ → ℕ
units_at order block = word order block 12 * 2 ^ 32 + word order block 16

-- a frame of so many bytes is too long, or doesn't fit into a block of this size behind so many bytes
abbrev pub is_no_frame : ℕ → ℕ → ℕ → Bool
is_no_frame size head n = nat_lt 262_144 n || nat_lt size (head + padded n)

abbrev pub enhanced_at : BlockHeader → List Interface → List ℕ → Result BlockContent FormatFault
enhanced_at head interfaces block = do
  long ← refuse (nat_lt head.size 32) (fault Length 4)
  interface ← interface_number interfaces (word head.order block 8) (fault NoInterface 8)
  ethernet ← refuse (not (interface.link == 1)) (fault LinkType 8)
  early ← refuse (nat_le (2 ^ 32 * 10 ^ interface.digits) (units_at head.order block)) (fault Time 12)
  fits ← refuse (is_no_frame head.size 32 (word head.order block 20)) (fault Length 20)
  Ok (Packet (record {
    moment = nanoseconds interface.digits (units_at head.order block);
    from = 28;
    bytes = word head.order block 20;
  }))

-- a length cut to what is stored of a frame
abbrev pub snapped : ℕ → ℕ → ℕ
snapped snap n = if snap == 0 then n else min n snap

-- its time is that of the record before
abbrev pub simple_at : BlockHeader → List Interface → ℕ → List ℕ → Result BlockContent FormatFault
simple_at head interfaces last block = do
  long ← refuse (nat_lt head.size 16) (fault Length 4)
  interface ← interface_number interfaces 0 (fault NoInterface 0)
  ethernet ← refuse (not (interface.link == 1)) (fault LinkType 0)
  fits ← refuse (is_no_frame head.size 16 (snapped interface.snap (word head.order block 8))) (fault Length 8)
  Ok (Packet (record { moment = last; from = 12; bytes = snapped interface.snap (word head.order block 8) }))

abbrev pub content_at : Kind → BlockHeader → List Interface → ℕ → List ℕ → Result BlockContent FormatFault
content_at SectionHeader head interfaces last block = section_at head block
content_at InterfaceBlock head interfaces last block = interface_at head interfaces block
content_at EnhancedPacket head interfaces last block = enhanced_at head interfaces block
content_at SimplePacket head interfaces last block = simple_at head interfaces last block
content_at Other head interfaces last block = Ok Skipped

-- the last four bytes repeat the size
unfoldable pub block_at : BlockHeader → List Interface → ℕ → List ℕ → Result BlockContent FormatFault
block_at head interfaces last block = do
  closed ← refuse (not (word head.order block (head.size - 4) == head.size)) (fault Length (head.size - 4))
  content_at (kind_of head.kind) head interfaces last block

-- ---- the format
abbrev pub order_of : Option Section → Option ByteOrder
order_of None = None
order_of (Some section) = Some section.order

abbrev pub interfaces_of : Option Section → List Interface
interfaces_of None = []
interfaces_of (Some section) = section.interfaces

-- a section of this order, with these interfaces
abbrev pub in_section : Sections → ByteOrder → List Interface → Sections
in_section s order interfaces = record s { section = Some (record { order = order; interfaces = interfaces }) }

-- what stands at the front, where it is a block of this content
abbrev pub shown : Sections → BlockHeader → List ℕ → Result BlockContent FormatFault → Front Sections
shown s head block (Ok Skipped) = Over head.size s
shown s head block (Ok NewSection) = Over head.size (in_section s head.order [])
shown s head block (Ok (NewInterface interface)) = Over head.size
    (in_section s head.order (interfaces_of s.section ++ interface ∷ []))
shown s head block (Ok (Packet x)) = Holds (record { time = x.moment; bytes = take x.bytes (drop x.from block) })
    head.size (record s { last = x.moment })
shown s head block (Err f) = Bad f

-- what is looked into has to be there
abbrev pub whole_front : Sections → BlockHeader → List ℕ → Front Sections
whole_front s head left =
    if nat_lt (length left) head.size then Short (fault Cut 0)
    else shown s head (take head.size left) (block_at head (interfaces_of s.section) s.last (take head.size left))

-- what is skipped needn't be there yet
abbrev pub headed_front : Sections → Result BlockHeader FormatFault → List ℕ → Front Sections
headed_front s (Ok head) left = if is_read (kind_of head.kind) then whole_front s head left else Over head.size s
headed_front s (Err f) left = Bad f

-- the block at the front of what is left
unfoldable pub block_front : Sections → List ℕ → Front Sections
block_front s left =
    if nat_eq (length left) 0 then Nothing
    else (if nat_lt (length left) 12 then Short (fault Cut 0)
    else headed_front s (head_at (order_of s.section) (take 12 left)) left)

-- what is read of a whole file
abbrev pub blocks_of : List ℕ → Capture
blocks_of file = reading_from block_front no_section 0 file

-- a pcapng capture as the list of its times and frames, or its first fault
unfoldable pub ng_records : List ℕ → Result (List Record) FormatFault
ng_records file = whole (blocks_of file)

-- how many bytes of a file are held at most: those of the longest block that is looked into
abbrev pub most_held : ℕ
most_held = 327_680
