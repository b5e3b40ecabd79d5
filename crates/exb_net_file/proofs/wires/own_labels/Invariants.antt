use Rattle.std.proofs.Common.{◌≡◌, ◌<◌, ℕ, length, slice_index}
use Rattle.exb_net_file.proofs.wires.own_labels.Given as goal

abbrev pub invariant-loop-bridge : goal.invariant-loop-bridge
invariant-loop-bridge l = record {
  sized : length l.labels ≡ 256;
  own : (b : ℕ) → b < l.bridge → slice_index l.labels b ≡ b;
}
