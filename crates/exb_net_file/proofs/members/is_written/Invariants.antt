use Rattle.std.proofs.Common.{◌≡◌, drop}
use Rattle.exb_net_file.specs.Members.{is_output_of_net}
use Rattle.exb_net_file.proofs.members.is_written.Given as goal

abbrev pub invariant-loop-index : goal.invariant-loop-index
invariant-loop-index l = is_output_of_net (drop l.index l.members) l.name ≡ is_output_of_net l.members l.name
