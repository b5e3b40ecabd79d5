use Rattle.std.proofs.Common.{◌≡◌, drop}
use Rattle.exb_net_file.specs.Wires.{member_from}
use Rattle.exb_net_file.proofs.wires.member_of.Given as goal

abbrev pub invariant-loop-index : goal.invariant-loop-index
invariant-loop-index l = member_from l.index l.name (drop l.index l.members) ≡ member_from 0 l.name l.members
