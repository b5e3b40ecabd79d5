use Rattle.exb_config.proofs.Rows.{is_marked-mark}
use Rattle.exb_config.proofs.vlan_row.mark.Goals as goal

pub returns : goal.returns
returns c d = is_marked-mark c.args.spread c.args.device d
