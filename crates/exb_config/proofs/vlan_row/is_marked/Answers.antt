use Rattle.std.proofs.Common.{◌%◌}
use Rattle.std.proofs.lemmas.Nat.Bits.{shr_and_one}
use Rattle.exb_config.specs.Rows.{is_marked}
use Rattle.exb_config.proofs.vlan_row.is_marked.Goals as goal

pub returns : goal.returns
unfolding is_marked
returns c = rw (shr_and_one c.args.spread (c.args.device % 64))
