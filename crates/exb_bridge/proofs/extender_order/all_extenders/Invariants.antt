use Rattle.std.proofs.Common.{◌≡◌, ℕ, ◌<◌, ◌≤◌}
use Rattle.std.specs.Prelude.{if◌then◌else◌}
use Rattle.exb_model.specs.Tree.{is_extender}
use Rattle.exb_bridge.proofs.extender_order.all_extenders.Given as goal
use Rattle.exb_model.specs.DeviceSets.{number_in}

-- those so far are in the set, and no others
abbrev pub invariant-loop-number : goal.invariant-loop-number
invariant-loop-number l = record {
  low : (n : ℕ) → n < l.number → number_in l.extenders n ≡ (if is_extender l.tree n then 1 else 0);
  high : (n : ℕ) → l.number ≤ n → number_in l.extenders n ≡ 0;
}
