use Rattle.std.proofs.Common.{◌≡◌, ℕ, ◌<◌, ◌≤◌, length, slice_index, bit_and}
use Rattle.exb_model.proofs.port_set.PortSet.both.Given as goal

-- the words so far are those that both share, and the rest are still those of the first
abbrev pub invariant-loop-device : goal.invariant-loop-device
invariant-loop-device l =
    (length l.words ≡ 65)
    × ((n : ℕ) → n < l.device → slice_index l.words n ≡ bit_and (slice_index l.self.words n) (slice_index l.other.words n))
    × ((n : ℕ) → l.device ≤ n → slice_index l.words n ≡ slice_index l.self.words n)
