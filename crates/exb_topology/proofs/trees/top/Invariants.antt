use Rattle.std.proofs.Common.{◌≡◌, ◌-◌, ◌<◌}
use Rattle.exb_model.specs.Tree.{top}
use Rattle.exb_topology.proofs.trees.top.Given as goal

abbrev pub invariant-loop-step : goal.invariant-loop-step
invariant-loop-step l = record {
  fits : l.at < 4160;
  same : top l.on (63 - l._step) l.at ≡ top l.on 63 l.port;
}
