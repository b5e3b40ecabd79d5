use Rattle.std.proofs.Common.{◌≡◌, ℕ, ◌≤◌, length, drop, slice_index}
use Rattle.exb_model.specs.Setup.{lay, shape_of}
use Rattle.exb_model.proofs.setup.Setup.port_counts.Given as goal

-- what is laid, with what is still to be laid, is the table of the tree
abbrev pub invariant-loop-extender : goal.invariant-loop-extender
invariant-loop-extender l = record {
  sized : length l.ports ≡ 65;
  few : (n : ℕ) → slice_index l.ports n ≤ 64;
  laid : lay (λ e. e.ports) l.ports (drop l.extender-index l.self.extenders) ≡ (shape_of l.self).ports;
}
