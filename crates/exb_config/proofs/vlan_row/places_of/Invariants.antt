use Rattle.exb_config.proofs.Rows.{IsPlacedTo}
use Rattle.exb_config.proofs.vlan_row.places_of.Given as goal

abbrev pub invariant-loop-device : goal.invariant-loop-device
invariant-loop-device l = IsPlacedTo l.places l.members l.device
