use Rattle.std.proofs.Common.{◌≡◌, ◌≤◌, filter, length}
use Rattle.exb_model.specs.Ports.{below}
use Rattle.exb_model.specs.Tree.{is_external}
use Rattle.exb_net_file.proofs.members.external_count.Given as goal

abbrev pub invariant-loop-number : goal.invariant-loop-number
invariant-loop-number l = record {
  counted : l.count ≡ length (filter (is_external l.tree) (below l.number));
  most : l.count ≤ l.number;
}
