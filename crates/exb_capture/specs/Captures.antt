-- A capture of either format: the first four bytes of a file say which.
use Rattle.std.specs.Prelude.{◌≡◌, ◌<◌, ◌≤◌, ℕ, nat_lt, if◌then◌else◌, true, false, List, [], ◌∷◌, length, Result, Ok, Err}
use Rattle.exb_model.specs.Input.{Record}
use Rattle.exb_capture.specs.declared.fault.FormatFault.{FormatFault}
use Rattle.exb_capture.specs.declared.fault.Flaw.TheVariants.{NotPcap}
use Rattle.exb_capture.specs.declared.classic.ClassicFormat.TheVariants.{Start}
use Rattle.exb_capture.specs.Blocks.{no_section, block_front, ng_records}
use Rattle.exb_capture.specs.Classic.{classic_front, pcap_records}
use Rattle.exb_capture.specs.declared.format.AnyFormat.{AnyFormat as State}
use Rattle.exb_capture.specs.declared.format.AnyFormat.TheVariants.{Unknown, Classic, Blocks}
use Rattle.exb_capture.specs.Fields.{agrees}
use Rattle.exb_capture.specs.Formats.{Front, Nothing, Short, Bad, Over, Holds, Capture, fault, reading_from, whole}

-- the same front, in other states
abbrev pub mapped : {S T : Type 0} → (S → T) → Front S → Front T
mapped f Nothing = Nothing
mapped f (Short x) = Short x
mapped f (Bad x) = Bad x
mapped f (Over n s) = Over n (f s)
mapped f (Holds x n s) = Holds x n (f s)

-- the first bytes of pcapng
abbrev pub first_bytes : List ℕ
first_bytes = 0x0A ∷ 0x0D ∷ 0x0D ∷ 0x0A ∷ []

abbrev pub unknown_front : List ℕ → Front State
unknown_front left =
    if agrees first_bytes left then (if nat_lt (length left) 4 then Short (fault NotPcap 0) else mapped Blocks
    (block_front no_section left))
    else mapped Classic (classic_front Start left)

-- what stands at the front of what is left of a capture
unfoldable pub capture_front : State → List ℕ → Front State
capture_front Unknown left = unknown_front left
capture_front (Classic s) left = mapped Classic (classic_front s left)
capture_front (Blocks s) left = mapped Blocks (block_front s left)

-- what is read of a whole file
abbrev pub capture_of : List ℕ → Capture
capture_of file = reading_from capture_front Unknown 0 file

-- a capture as the list of its times and frames, or its first fault
unfoldable pub capture_records : List ℕ → Result (List Record) FormatFault
capture_records file = whole (capture_of file)

-- the records of a capture, where it has no fault
abbrev pub records_or_none : Result (List Record) FormatFault → List Record
records_or_none (Ok records) = records
records_or_none (Err fault) = []

-- a file that begins with these four bytes is read as pcapng, every other as classic pcap
pub record EachIsRead : Type 0 where
  pub blocks : (file : List ℕ) → agrees first_bytes file ≡ true → 4 ≤ length file
      → capture_records file ≡ ng_records file
  pub classic : (file : List ℕ) → agrees first_bytes file ≡ false → capture_records file ≡ pcap_records file
  pub few : (file : List ℕ) → length file < 4 → capture_records file ≡ pcap_records file
