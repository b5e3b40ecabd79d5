use Rattle.std.proofs.Common.{◌≡◌, ◌<◌, ℕ, true}
use Rattle.exb_model.specs.Tree.{is_external}
use Rattle.exb_counters.proofs.counters.behind_last.Given as goal

abbrev pub invariant-loop-number : goal.invariant-loop-number
invariant-loop-number l = (q : ℕ) → q < l.number → is_external l.tree q ≡ true → q < l.behind
