use Rattle.std.proofs.Common.{◌≡◌, ◌≤◌, count_by}
use Rattle.exb_model.specs.Ports.{below}
use Rattle.exb_model.specs.Tree.{is_cascade_under}
use Rattle.exb_model.proofs.layout.Layout.cascades_under.Given as goal

abbrev pub invariant-loop-number : goal.invariant-loop-number
invariant-loop-number l = record {
  counted : l.count ≡ count_by (is_cascade_under l.self l.bridge_port) (below l.number);
  few : l.count ≤ l.number;
}
