use Rattle.std.proofs.Common.{◌≡◌, ◌≤◌, ◌-◌}
use Rattle.std.specs.Prelude.{count_by}
use Rattle.exb_model.specs.Ports.{below}
use Rattle.exb_model.specs.Tree.{is_cascade_under}
use Rattle.exb_plan.proofs.ports_below.cascades_under.Given as goal

-- those of the ports so far
abbrev pub invariant-loop-number : goal.invariant-loop-number
invariant-loop-number l = record {
  counted : l.count ≡ count_by (is_cascade_under l.tree (l.bridge_port - 1)) (below l.number);
  few : l.count ≤ l.number;
}
