use Rattle.std.proofs.Common.{◌≡◌, ℕ, ◌<◌, bit_and, slice_index}
use Rattle.exb_model.proofs.port_set.PortSet.is_within.Given as goal

abbrev pub invariant-loop-device : goal.invariant-loop-device
invariant-loop-device l = (n : ℕ) → n < l.device → bit_and (slice_index l.self.words n) (slice_index l.wider.words n) ≡ slice_index l.self.words n
