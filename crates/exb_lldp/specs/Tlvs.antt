-- The TLVs of a frame (IEEE 802.1AB-2009, 8.4): each a header of 7 bits of type and 9 bits of length, and a value.
use Rattle.std.specs.Prelude.{ℕ, zero, suc, ◌+◌, ◌/◌, ◌%◌, ◌==◌, ◌&&◌, Bool, List, [], ◌∷◌, length, Option, Some, None, nat_le, not, slice_index, take, drop, if◌then◌else◌}
use Rattle.std.specs.Option.{option_or}
use Rattle.exb_model.specs.Frames.{number_at}
use Rattle.exb_lldp.specs.declared.tlv.TlvPosition.{TlvPosition}
use Rattle.exb_lldp.specs.declared.tlv.TlvPosition.TheVariants.{ChassisId, PortId, TimeToLive, Later}

-- a TLV, and the offset of its header
pub record Tlv : Type 0 where
  pub at : ℕ
  pub kind : ℕ
  pub value : List ℕ

-- where the TLV at an offset ends, by its header
abbrev pub end_at : List ℕ → ℕ → ℕ
end_at frame at = at + 2 + number_at frame at % 512

-- the TLV at an offset; none where its header or its value runs past the end
unfoldable pub tlv_in : List ℕ → ℕ → Option Tlv
tlv_in frame at =
    if nat_le (end_at frame at) (length frame)
    then Some (record {
      at = at;
      kind = number_at frame at / 512;
      value = take (number_at frame at % 512) (drop (at + 2) frame);
    })
    else None

-- the TLVs that lie whole in a frame, up to and with the End, and the offset of the one that is cut, if there is no End
pub record Tlvs : Type 0 where
  pub all : List Tlv
  pub cut : Option ℕ

-- a TLV, and those after it: a type of 0 is the End
abbrev pub with_first : ℕ → Option Tlv → Tlvs → Tlvs
with_first at None others = record { all = []; cut = Some at }
with_first at (Some t) others = if t.kind == 0 then record { all = t ∷ []; cut = None } else record
    { all = t ∷ others.all; cut = others.cut }

-- from an offset on, if there are at most so many
unfoldable pub tlvs_within : ℕ → List ℕ → ℕ → Tlvs
tlvs_within zero frame at = record { all = []; cut = Some at }
tlvs_within (suc most) frame at = with_first at (tlv_in frame at) (tlvs_within most frame (end_at frame at))

-- from an offset on: there are fewer TLVs than bytes
unfoldable pub tlvs_from : List ℕ → ℕ → Tlvs
tlvs_from frame at = tlvs_within (length frame) frame at

-- whether a TLV may stand at a place: first a Chassis ID that is a MAC address, then a Port ID, then a Time To Live,
-- and none of them later
abbrev pub is_placed : TlvPosition → Tlv → Bool
is_placed ChassisId t = t.kind == 1 && (length t.value == 7 && slice_index t.value 0 == 4)
is_placed PortId t = t.kind == 2 && nat_le 2 (length t.value)
is_placed TimeToLive t = t.kind == 3 && length t.value == 2
is_placed Later t = not (nat_le 1 t.kind && nat_le t.kind 3)

abbrev pub next_place : TlvPosition → TlvPosition
next_place ChassisId = PortId
next_place PortId = TimeToLive
next_place TimeToLive = Later
next_place Later = Later

-- the offset of the first TLV that may not stand at its place
abbrev pub first_misplaced : TlvPosition → List Tlv → Option ℕ
first_misplaced place [] = None
first_misplaced place (t ∷ ts) = if is_placed place t then first_misplaced (next_place place) ts else Some t.at

-- an extension TLV: organizationally specific, of this project's number 02 45 42, subtype 1, with a port count of 1 to
-- 64
abbrev pub is_extension : Tlv → Bool
is_extension t =
    t.kind == 127 && (length t.value == 5
    && ((slice_index t.value 0 == 2 && (slice_index t.value 1 == 69
    && (slice_index t.value 2 == 66 && slice_index t.value 3 == 1)))
    && (nat_le 1 (slice_index t.value 4) && nat_le (slice_index t.value 4) 64)))

abbrev pub count_in : Tlv → Option ℕ
count_in t = if is_extension t then Some (slice_index t.value 4) else None

-- the port count of the first extension TLV
abbrev pub first_count : List Tlv → Option ℕ
first_count [] = None
first_count (t ∷ ts) = option_or (count_in t) (first_count ts)
