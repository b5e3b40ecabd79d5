use Rattle.std.proofs.Common.{◌≡◌, ◌≤◌, ◌-◌, ◌&&◌}
use Rattle.std.specs.Prelude.{count_by}
use Rattle.exb_model.specs.Ports.{below}
use Rattle.exb_model.specs.Tree.{is_under}
use Rattle.exb_config.specs.Tables.{bridge_of}
use Rattle.exb_plan.proofs.refusals.present_under.Given as goal

-- those of the ports so far
abbrev pub invariant-loop-number : goal.invariant-loop-number
invariant-loop-number l = record {
  counted : l.count ≡ count_by (λ q. is_under l.tree (l.bridge_port - 1) q && (bridge_of l.config).present q) (below l.number);
  few : l.count ≤ l.number;
}
