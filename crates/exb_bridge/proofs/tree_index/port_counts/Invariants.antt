use Rattle.std.proofs.Common.{◌≡◌, length, drop}
use Rattle.exb_model.specs.Setup.{lay, shape_of}
use Rattle.exb_bridge.proofs.tree_index.port_counts.Given as goal

-- what is laid, with what is still to be laid, is the table
abbrev pub invariant-loop-extender : goal.invariant-loop-extender
invariant-loop-extender l = record {
  sized : length l.ports ≡ 65;
  ports : lay (λ e. e.ports) l.ports (drop l.extender-index l.setup.extenders) ≡ (shape_of l.setup).ports;
}
