-- Worked cases: the capture of 140 bytes with one frame of 60 bytes at 100 seconds.
use Rattle.std.specs.Prelude.{◌≡◌, ℕ, List, [], ◌∷◌, ◌++◌, replicate, take, Ok, Err}
use Rattle.exb_capture.specs.declared.fault.Flaw.TheVariants.{Cut, Interface, Length, Magic, Resolution}
use Rattle.exb_capture.specs.Formats.{fault}
use Rattle.exb_capture.specs.Blocks.{ng_records}

abbrev pub frame : List ℕ
frame = 0xFF ∷ 0xFF ∷ 0xFF ∷ 0xFF ∷ 0xFF ∷ 0xFF ∷ 2 ∷ 0 ∷ 0 ∷ 0 ∷ 0 ∷ 1 ∷ 8 ∷ 0 ∷ replicate 46 0

abbrev pub section_header : List ℕ
section_header =
    0x0A ∷ 0x0D ∷ 0x0D ∷ 0x0A ∷ 0x1C ∷ 0 ∷ 0 ∷ 0 ∷ 0x4D ∷ 0x3C ∷ 0x2B ∷ 0x1A ∷ 1 ∷ 0 ∷ 0 ∷ 0
    ∷ 0xFF ∷ 0xFF ∷ 0xFF ∷ 0xFF ∷ 0xFF ∷ 0xFF ∷ 0xFF ∷ 0xFF ∷ 0x1C ∷ 0 ∷ 0 ∷ 0 ∷ []

abbrev pub an_interface : List ℕ
an_interface = 1 ∷ 0 ∷ 0 ∷ 0 ∷ 0x14 ∷ 0 ∷ 0 ∷ 0 ∷ 1 ∷ 0 ∷ 0 ∷ 0 ∷ 0 ∷ 0 ∷ 4 ∷ 0 ∷ 0x14 ∷ 0 ∷ 0 ∷ 0 ∷ []

-- the packet of an interface with this number
abbrev pub packet_of : ℕ → List ℕ
packet_of i =
    6 ∷ 0 ∷ 0 ∷ 0 ∷ 0x5C ∷ 0 ∷ 0 ∷ 0 ∷ i ∷ 0 ∷ 0 ∷ 0 ∷ 0 ∷ 0 ∷ 0 ∷ 0 ∷ 0 ∷ 0xE1 ∷ 0xF5 ∷ 5
    ∷ 0x3C ∷ 0 ∷ 0 ∷ 0 ∷ 0x3C ∷ 0 ∷ 0 ∷ 0 ∷ frame ++ 0x5C ∷ 0 ∷ 0 ∷ 0 ∷ []

abbrev pub file_of : ℕ → List ℕ
file_of i = section_header ++ an_interface ++ packet_of i

abbrev pub TheRowIsRead : Type 0
TheRowIsRead = ng_records (file_of 0) ≡ Ok (record { time = 100_000_000_000; bytes = frame } ∷ [])

abbrev pub AnotherInterface : Type 0
AnotherInterface = ng_records (file_of 1) ≡ Err (fault Interface 56)

abbrev pub TheLastByteCut : Type 0
TheLastByteCut = ng_records (take 139 (file_of 0)) ≡ Err (fault Cut 48)

abbrev pub NothingIsEmpty : Type 0
NothingIsEmpty = ng_records [] ≡ Ok []

-- ---- further cases of the table, behind the section header of 28 bytes
-- a block of this type with this content, whose two lengths are 12 more
abbrev pub block : ℕ → ℕ → List ℕ → List ℕ
block kind size content = kind ∷ 0 ∷ 0 ∷ 0 ∷ size ∷ 0 ∷ 0 ∷ 0 ∷ content ++ size ∷ 0 ∷ 0 ∷ 0 ∷ []

-- a section with this block
abbrev pub with_block : List ℕ → List ℕ
with_block b = section_header ++ b

-- a section with an interface of these options, and of nanoseconds
abbrev pub with_options : ℕ → List ℕ → List ℕ
with_options size options = section_header ++ block 1 size (1 ∷ 0 ∷ 0 ∷ 0 ∷ 0 ∷ 0 ∷ 0 ∷ 0 ∷ options)

abbrev pub nanos : List ℕ
nanos = with_options 28 (9 ∷ 0 ∷ 1 ∷ 0 ∷ 9 ∷ 0 ∷ 0 ∷ 0 ∷ [])

-- an interface whose frames are stored up to two bytes
abbrev pub snap_two : List ℕ
snap_two = section_header ++ block 1 20 (1 ∷ 0 ∷ 0 ∷ 0 ∷ 2 ∷ 0 ∷ 0 ∷ 0 ∷ [])

-- an enhanced packet of interface 0 with one byte, at this low half of a time
abbrev pub one_byte : ℕ → List ℕ
one_byte time = block 6 36 (0 ∷ 0 ∷ 0 ∷ 0 ∷ 0 ∷ 0 ∷ 0 ∷ 0 ∷ time ∷ 0 ∷ 0 ∷ 0 ∷ 1 ∷ 0 ∷ 0 ∷ 0 ∷ 1 ∷ 0 ∷ 0 ∷ 0 ∷ 7 ∷ 0 ∷ 0
    ∷ 0 ∷ [])

-- a simple packet of this original length, of which four bytes are stored
abbrev pub simple : ℕ → List ℕ
simple n = block 3 20 (n ∷ 0 ∷ 0 ∷ 0 ∷ 8 ∷ 9 ∷ 10 ∷ 11 ∷ [])

pub record TheTable : Type 0 where
  pub no_magic : ng_records (replicate 12 0) ≡ Err (fault Magic 8)
  pub short_head : ng_records (section_header ++ 1 ∷ 0 ∷ []) ≡ Err (fault Cut 28)
  pub no_multiple : ng_records (with_block (block 5 13 (replicate 1 0))) ≡ Err (fault Length 32)
  pub skipped : ng_records (with_block (block 5 16 (replicate 4 0))) ≡ Ok []
  pub skipped_cut : ng_records (take 41 (with_block (block 5 16 (replicate 4 0)))) ≡ Err (fault Cut 28)
  pub other_end : ng_records (with_block (1 ∷ 0 ∷ 0 ∷ 0 ∷ 12 ∷ 0 ∷ 0 ∷ 0 ∷ 13 ∷ 0 ∷ 0 ∷ 0 ∷ [])) ≡ Err (fault Length 36)
  pub short_interface : ng_records (with_block (block 1 16 (replicate 4 0))) ≡ Err (fault Length 32)
  pub option_past : ng_records (with_options 24 (9 ∷ 0 ∷ 1 ∷ 0 ∷ [])) ≡ Err (fault Length 44)
  pub option_end : ng_records (with_options 24 (0 ∷ 0 ∷ 99 ∷ 0 ∷ [])) ≡ Ok []
  pub past_first : ng_records (with_options 32 (9 ∷ 0 ∷ 1 ∷ 0 ∷ 10 ∷ 0 ∷ 0 ∷ 0 ∷ 1 ∷ 0 ∷ 1 ∷ 0 ∷ []))
      ≡ Err (fault Length 52)
  pub no_power : ng_records (with_options 28 (9 ∷ 0 ∷ 1 ∷ 0 ∷ 10 ∷ 0 ∷ 0 ∷ 0 ∷ [])) ≡ Err (fault Resolution 44)
  pub in_nanos : ng_records (nanos ++ one_byte 5) ≡ Ok (record { time = 5; bytes = 7 ∷ [] } ∷ [])
  pub in_micros : ng_records (section_header ++ an_interface ++ one_byte 5)
      ≡ Ok (record { time = 5_000; bytes = 7 ∷ [] } ∷ [])
  pub no_interface : ng_records (with_block (simple 1)) ≡ Err (fault Interface 28)
  pub snapped : ng_records (snap_two ++ one_byte 5 ++ simple 200)
      ≡ Ok (record { time = 5_000; bytes = 7 ∷ [] } ∷ record { time = 5_000; bytes = 8 ∷ 9 ∷ [] } ∷ [])
  pub too_long : ng_records (section_header ++ an_interface ++ simple 5) ≡ Err (fault Length 56)
  pub new_section : ng_records (section_header ++ an_interface ++ section_header ++ one_byte 5)
      ≡ Err (fault Interface 84)
