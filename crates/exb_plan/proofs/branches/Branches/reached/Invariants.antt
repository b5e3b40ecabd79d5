use Rattle.std.proofs.Common.{◌≡◌, ◌≢◌, ◌<◌, ℕ, true, false, slice_index, slice_index_or}
use Rattle.exb_plan.proofs.branches.Branches.reached.Given as goal

-- what the words so far have is marked
abbrev pub invariant-loop-device : goal.invariant-loop-device
invariant-loop-device l =
    (n : ℕ) → n < l.device → slice_index l.set.words n ≢ 0 → slice_index l.self.trunks n < 65 → slice_index_or l.reached (slice_index l.self.trunks n) false ≡ true
