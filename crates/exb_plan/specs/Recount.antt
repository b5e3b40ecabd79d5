-- How the uses of groups follow the parts that go and come.
use Rattle.std.specs.Prelude.{◌≡◌, ℕ, ◌+◌, ◌-◌, ◌<◌, ◌≤◌, true, List, [], Some, length, slice_index_or, if◌then◌else◌}
use Rattle.exb_model.specs.Refusals.{is_empty_set}
use Rattle.exb_numbers.specs.Spaces.{Spaces, has_space}
use Rattle.exb_control_spec.specs.Plans.Sets.{PortsAt}
use Rattle.exb_control_spec.specs.Plans.HeldNumbers.{Held, group_in, group_used}
use Rattle.exb_plan.specs.SpaceContents.{held_by}
use Rattle.exb_control_spec.specs.Plans.TouchedParts.{uses_in}
use Rattle.exb_plan.specs.UseCounts.{count_at}

-- how often the set of group g at bridge port k, from 0, stands among parts; that of a free group doesn't
abbrev pub parts_at : Held → List PortsAt → ℕ → ℕ → ℕ
parts_at h parts k g = if is_empty_set (h.set k g) then 0 else uses_in parts
    (record { bridge_port = k + 1; ports = h.set k g })

-- no set has two groups
abbrev pub AreOwn : Spaces → Type 0
AreOwn v = (k g : ℕ) → has_space v k ≡ true → group_used (held_by v) k g ≡ true
    → group_in (held_by v) k ((held_by v).set k g) ≡ Some g

-- each group in use has a place among the uses
abbrev pub HavePlaces : Spaces → List (List ℕ) → Type 0
HavePlaces v uses = (k g : ℕ) → has_space v k ≡ true → group_used (held_by v) k g ≡ true
    → g - 4096 < length (slice_index_or uses k [])

-- there are as many places
abbrev pub HaveRowsOf : List (List ℕ) → List (List ℕ) → Type 0
HaveRowsOf old new = (k : ℕ) → length (slice_index_or new k []) ≡ length (slice_index_or old k [])

-- each group has a use more for each part that is its set
abbrev pub AreRaised : Spaces → List PortsAt → List (List ℕ) → List (List ℕ) → Type 0
AreRaised v parts old new = (k g : ℕ) → has_space v k ≡ true → 4096 ≤ g → count_at new k g
    ≡ count_at old k g + parts_at (held_by v) parts k g

-- or a use less
abbrev pub AreLowered : Spaces → List PortsAt → List (List ℕ) → List (List ℕ) → Type 0
AreLowered v parts old new = (k g : ℕ) → has_space v k ≡ true → 4096 ≤ g → count_at old k g
    ≡ count_at new k g + parts_at (held_by v) parts k g

-- no group's set stands among the parts more often than it has uses
abbrev pub AreEnough : Spaces → List PortsAt → List (List ℕ) → Type 0
AreEnough v parts uses = (k g : ℕ) → has_space v k ≡ true → 4096 ≤ g
    → parts_at (held_by v) parts k g ≤ count_at uses k g

-- the groups whose sets stand among the parts have no use
abbrev pub AreUnused : Spaces → List PortsAt → List (List ℕ) → Type 0
AreUnused v parts uses = (k g : ℕ) → has_space v k ≡ true → 4096 ≤ g → 0 < parts_at (held_by v) parts k g
    → count_at uses k g ≡ 0

-- the uses after a command, at the groups that there are before it: lowered by the parts before it, then raised by
-- those after it
pub record AreMoved (v : Spaces) (before come : List PortsAt) (old new : List (List ℕ)) : Type 0 where
  pub less : List (List ℕ)
  pub lowered : AreLowered v before old less
  pub raised : AreRaised v come less new
  pub rows : HaveRowsOf old new
