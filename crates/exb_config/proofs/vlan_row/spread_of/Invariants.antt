use Rattle.exb_config.proofs.Rows.{IsSpreadTo}
use Rattle.exb_config.proofs.vlan_row.spread_of.Given as goal

abbrev pub invariant-loop-device : goal.invariant-loop-device
invariant-loop-device l = IsSpreadTo l.spread l.members l.device
