-- How often the set of each group is a part of the configuration, as `ActiveConfig` keeps it beside its value.
use Rattle.std.specs.Prelude.{◌≡◌, ℕ, ◌<◌, true, List, [], length, slice_index_or}
use Rattle.exb_model.specs.Tree.{Shape, is_cascade}
use Rattle.exb_model.specs.Setup.{Limits}
use Rattle.exb_model.specs.Configuration.{Bridge}
use Rattle.exb_control_spec.specs.Plans.HeldNumbers.{Held}
use Rattle.exb_plan.specs.UseCounts.{IsCounted}
use Rattle.exb_control.specs.ActiveConfigs.{ActiveConfig, IsActiveConfig, bridge_in, held_in, bridge_at_end, held_at_end}

-- There is a place for each group that there can be, with the uses of its set.
pub record AreUses (t : Shape) (l : Limits) (b : Bridge) (h : Held) (uses : List (List ℕ)) : Type 0 where
  pub counted : IsCounted t b h uses
  pub rows : (k : ℕ) → k < 64 → is_cascade t k ≡ true → length (slice_index_or uses k []) ≡ l.groups

-- what the type keeps: the uses are those at the end of the change at work
pub record IsKept (v : ActiveConfig) (counts : List (List ℕ)) : Type 0 where
  pub active : IsActiveConfig v
  pub uses : AreUses v.shape v.limits (bridge_at_end v.stage (bridge_in v)) (held_at_end v.stage (held_in v)) counts
