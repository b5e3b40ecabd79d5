use Rattle.std.proofs.Common.{◌≡◌, ◌≤◌, ◌*◌, take}
use Rattle.exb_net_file.specs.Members.{ports_together}
use Rattle.exb_net_file.proofs.members.ports_together.Given as goal

abbrev pub invariant-loop-member : goal.invariant-loop-member
invariant-loop-member l = record {
  counted : l.count ≡ ports_together (take l.member-index l.members);
  most : l.count ≤ 4160 * l.member-index;
}
