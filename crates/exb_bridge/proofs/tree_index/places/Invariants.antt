use Rattle.std.proofs.Common.{◌≡◌, length, drop}
use Rattle.exb_model.specs.Setup.{lay, port_at, shape_of}
use Rattle.exb_bridge.proofs.tree_index.places.Given as goal

-- what is laid, with what is still to be laid, is the table of the tree
abbrev pub invariant-loop-extender : goal.invariant-loop-extender
invariant-loop-extender l = record {
  sized : length l.places ≡ 65;
  laid : lay (λ e. port_at e.on) l.places (drop l.extender-index l.setup.extenders) ≡ (shape_of l.setup).on;
}
