use Rattle.std.proofs.Common.{◌≡◌, ◌<◌, ◌≤◌, ℕ, length, slice_index}
use Rattle.exb_net_file.proofs.LoopTest.{other_label}
use Rattle.exb_net_file.proofs.wires.relabel.Given as goal

-- those before have their new label, and the others their old one
abbrev pub invariant-loop-bridge : goal.invariant-loop-bridge
invariant-loop-bridge l = record {
  sized : length l.labels ≡ 256;
  named : (b : ℕ) → b < l.bridge → slice_index l.labels b ≡ other_label l.from l.to (slice_index l.initial.labels b);
  kept : (b : ℕ) → l.bridge ≤ b → slice_index l.labels b ≡ slice_index l.initial.labels b;
}
