-- What a frame announces, or its first fault.
use Rattle.std.specs.Prelude.{ℕ, ◌==◌, ◌&&◌, Bool, List, [], ◌∷◌, length, Option, Some, None, Result, Ok, Err, nat_le, drop, if◌then◌else◌}
use Rattle.exb_model.specs.Frames.{is_control_frame, number_at}
use Rattle.exb_lldp.specs.declared.announce.Announce.{Announce}
use Rattle.exb_lldp.specs.declared.announce.LldpFault.{LldpFault}
use Rattle.exb_lldp.specs.declared.announce.LldpFault.TheVariants.{NotLldp, Cut, Order, NoExtension}
use Rattle.exb_lldp.specs.declared.tlv.TlvPosition.{TlvPosition}
use Rattle.exb_lldp.specs.declared.tlv.TlvPosition.TheVariants.{ChassisId}
use Rattle.exb_lldp.specs.Tlvs.{Tlv, Tlvs, tlvs_from, first_misplaced, first_count}

-- the destination 01-80-C2-00-00-0E, and EtherType 88CC at byte 12
abbrev pub is_lldp : List ℕ → Bool
is_lldp frame = nat_le 14 (length frame) && (is_control_frame frame && number_at frame 12 == 0x88CC)

-- of the first misplaced TLV, the one that is cut and the first port count: all TLVs before the cut lie before it
abbrev pub verdict : Option ℕ → Option ℕ → Option ℕ → Result ℕ LldpFault
verdict (Some at) cut count = Err (Order at)
verdict None (Some at) count = Err (Cut at)
verdict None None None = Err NoExtension
verdict None None (Some ports) = Ok ports

-- the port count that TLVs tell, the first of which stands at this place
abbrev pub count_told : TlvPosition → Tlvs → Result ℕ LldpFault
count_told place tlvs = verdict (first_misplaced place tlvs.all) tlvs.cut (first_count tlvs.all)

-- the address in a Chassis ID, after its subtype
abbrev pub chassis_in : List Tlv → List ℕ
chassis_in [] = []
chassis_in (t ∷ ts) = drop 1 t.value

abbrev pub announcing : List ℕ → Result ℕ LldpFault → Result Announce LldpFault
announcing chassis (Ok ports) = Ok (record { chassis = record { 0 = chassis }; ports = ports })
announcing chassis (Err fault) = Err fault

abbrev pub told_by : Tlvs → Result Announce LldpFault
told_by tlvs = announcing (chassis_in tlvs.all) (count_told ChassisId tlvs)

-- what a frame announces; its TLVs begin at byte 14
unfoldable pub announced : List ℕ → Result Announce LldpFault
announced frame = if is_lldp frame then told_by (tlvs_from frame 14) else Err NotLldp
