use Rattle.std.proofs.Common.{◌≡◌, ℕ, ◌<◌, length, drop, slice_index}
use Rattle.exb_model.specs.Setup.{lay, port_at, shape_of}
use Rattle.exb_topology.proofs.trees.hanging.Given as goal

-- what is laid, with what is still to be laid, is the table
abbrev pub invariant-loop-extender : goal.invariant-loop-extender
invariant-loop-extender l = record {
  sized : length l.on ≡ 65;
  fits : (n : ℕ) → slice_index l.on n < 4160;
  on : lay (λ e. port_at e.on) l.on (drop l.extender-index l.setup.extenders) ≡ (shape_of l.setup).on;
}
