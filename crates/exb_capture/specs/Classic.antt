-- Classic pcap: what stands at the front of what is left, the header and then record by record, with its first fault.
use Rattle.std.specs.Prelude.{ℕ, ◌+◌, ◌*◌, ◌^◌, ◌==◌, ◌&&◌, not, nat_lt, nat_le, nat_eq, if◌then◌else◌, List, [], ◌∷◌, length, take, drop, Option, Some, None, Result, Ok, Err}
use Rattle.exb_model.specs.Input.{Record}
use Rattle.exb_capture.specs.declared.fault.FormatFault.{FormatFault}
use Rattle.exb_capture.specs.declared.fault.Flaw.TheVariants.{NotPcap, Version, LinkType, Cut, Length, Time}
use Rattle.exb_capture.specs.declared.byte_order.ByteOrder.{ByteOrder}
use Rattle.exb_capture.specs.declared.byte_order.ByteOrder.TheVariants.{Big, Little}
use Rattle.exb_capture.specs.declared.classic.Resolution.{Resolution}
use Rattle.exb_capture.specs.declared.classic.Resolution.TheVariants.{Micros, Nanos}
use Rattle.exb_capture.specs.declared.classic.ClassicEncoding.{ClassicEncoding}
use Rattle.exb_capture.specs.declared.classic.ClassicFormat.{ClassicFormat}
use Rattle.exb_capture.specs.declared.classic.ClassicFormat.TheVariants.{Start, Behind}
use Rattle.exb_capture.specs.Fields.{◌>>=◌, refuse, word, half_word, nanoseconds, agrees}
use Rattle.exb_capture.specs.Formats.{Front, Nothing, Short, Bad, Over, Holds, fault, reading_from, whole}

-- how many digits behind the point of a second a fraction has
abbrev pub digits : Resolution → ℕ
digits Micros = 6
digits Nanos = 9

abbrev pub form : ByteOrder → Resolution → ClassicEncoding
form order resolution = record { order = order; resolution = resolution }

-- by the magic number, as far as it is there: a1b2c3d4 for microseconds, a1b23c4d for nanoseconds
abbrev pub form_of : List ℕ → Option ClassicEncoding
form_of left =
    if agrees (0xA1 ∷ 0xB2 ∷ 0xC3 ∷ 0xD4 ∷ []) left then Some (form Big Micros)
    else (if agrees (0xA1 ∷ 0xB2 ∷ 0x3C ∷ 0x4D ∷ []) left then Some (form Big Nanos)
    else (if agrees (0xD4 ∷ 0xC3 ∷ 0xB2 ∷ 0xA1 ∷ []) left then Some (form Little Micros)
    else (if agrees (0x4D ∷ 0x3C ∷ 0xB2 ∷ 0xA1 ∷ []) left then Some (form Little Nanos)
    else None)))

-- the rest of a header of 24 bytes: version 2.4, link type 1
abbrev pub header_at : ClassicEncoding → List ℕ → Result (Unit {0}) FormatFault
header_at f header = do
  known ← refuse (not (half_word f.order header 4 == 2 && half_word f.order header 6 == 4)) (fault Version 4)
  refuse (not (word f.order header 20 == 1)) (fault LinkType 20)

abbrev pub shown_header : ClassicEncoding → Result (Unit {0}) FormatFault → Front ClassicFormat
shown_header f (Ok u) = Over 24 (Behind f)
shown_header f (Err x) = Bad x

abbrev pub magic_front : Option ClassicEncoding → List ℕ → Front ClassicFormat
magic_front None left = Bad (fault NotPcap 0)
magic_front (Some f) left =
    if nat_lt (length left) 4 then Short (fault NotPcap 0)
    else (if nat_lt (length left) 24 then Short (fault Cut 0)
    else shown_header f (header_at f (take 24 left)))

-- the stored length in a record's head of 16 bytes
abbrev pub head_at : ClassicEncoding → List ℕ → Result ℕ FormatFault
head_at f head = do
  early ← refuse (nat_le (10 ^ digits f.resolution) (word f.order head 4)) (fault Time 4)
  short ← refuse (nat_lt 262_144 (word f.order head 8)) (fault Length 8)
  Ok (word f.order head 8)

abbrev pub time_at : ClassicEncoding → List ℕ → ℕ
time_at f head = word f.order head 0 * 1_000_000_000 + nanoseconds (digits f.resolution) (word f.order head 4)

abbrev pub stored_front : ClassicEncoding → Result ℕ FormatFault → List ℕ → Front ClassicFormat
stored_front f (Err x) left = Bad x
stored_front f (Ok n) left =
    if nat_lt (length left) (16 + n) then Short (fault Cut 0)
    else Holds (record { time = time_at f (take 16 left); bytes = take n (drop 16 (take (16 + n) left)) }) (16 + n)
    (Behind f)

-- the record at the front of what is left
abbrev pub record_front : ClassicEncoding → List ℕ → Front ClassicFormat
record_front f left =
    if nat_eq (length left) 0 then Nothing
    else (if nat_lt (length left) 16 then Short (fault Cut 0)
    else stored_front f (head_at f (take 16 left)) left)

-- ---- the format
unfoldable pub classic_front : ClassicFormat → List ℕ → Front ClassicFormat
classic_front Start left = magic_front (form_of left) left
classic_front (Behind f) left = record_front f left

-- a classic capture as the list of its times and frames, or its first fault
unfoldable pub pcap_records : List ℕ → Result (List Record) FormatFault
pcap_records file = whole (reading_from classic_front Start 0 file)
