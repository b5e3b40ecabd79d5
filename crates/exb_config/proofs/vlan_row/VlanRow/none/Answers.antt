use Rattle.std.proofs.Common.{refl}
use Rattle.exb_config.proofs.Rows.{none_known}
use Rattle.exb_config.proofs.vlan_row.VlanRow.none.Goals as goal

pub invariant_of-result : goal.invariant_of-result
invariant_of-result c = (none_known, λ q not. refl, λ q not. refl)
