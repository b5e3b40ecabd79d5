-- What the code's readers give, as values of the grammar.
use Rattle.std.specs.Prelude.{◌≡◌, ℕ, List, Option, Some, None, Result, Ok, Err, if◌then◌else◌}
use Rattle.exb_lldp.specs.declared.announce.LldpFault.{LldpFault}
use Rattle.exb_lldp.specs.declared.announce.LldpFault.TheVariants.{Cut, Order}
use Rattle.exb_lldp.specs.declared.tlv.TlvPosition.{TlvPosition}
use Rattle.exb_lldp.specs.declared.tlv.Tlv.{Tlv as TlvRef}
use Rattle.exb_lldp.specs.Tlvs.{Tlv, tlv_in, is_placed}

abbrev pub tlv_of : TlvRef → Tlv
tlv_of t = record { at = t.at; kind = t.kind; value = t.value.now }

-- what a reader answered, seen by view, is this
abbrev pub Gives : {X Y : Type 0} → (X → Y) → Result X LldpFault → Result Y LldpFault → Type 0
Gives view (Ok x) answer = answer ≡ Ok (view x)
Gives view (Err fault) answer = answer ≡ Err fault

abbrev pub if_placed : TlvPosition → ℕ → Option Tlv → Result Tlv LldpFault
if_placed place at None = Err (Cut at)
if_placed place at (Some t) = if is_placed place t then Ok t else Err (Order at)

-- the TLV at an offset, which has to fit its place: Cut is tried before Order
abbrev pub placed_in : TlvPosition → List ℕ → ℕ → Result Tlv LldpFault
placed_in place frame at = if_placed place at (tlv_in frame at)
