use Rattle.std.proofs.Common.{◌≡◌, ◌≤◌, ◌-◌}
use Rattle.std.specs.Prelude.{count_by}
use Rattle.exb_model.specs.Ports.{below}
use Rattle.exb_model.specs.Tree.{is_under}
use Rattle.exb_capacity.proofs.channels.extended_under.Given as goal

-- those of the ports so far
abbrev pub invariant-loop-number : goal.invariant-loop-number
invariant-loop-number l = record {
  counted : l.count ≡ count_by (is_under l.tree (l.bridge_port - 1)) (below l.number);
  few : l.count ≤ l.number;
}
