use Rattle.exb_config.proofs.Rows.{first_kinds}
use Rattle.exb_config.proofs.vlan_table.VlanTable.new.Goals as goal

pub returns : goal.returns
returns c = rw (c.in_ok-no_rows.ensures) (first_kinds 4096)
