-- Groups that lose their last use.
use Rattle.std.specs.Prelude.{◌≡◌, ℕ, ◌<◌, ◌≤◌, ◌==◌, ◌&&◌, Bool, true, List, nat_lt}
use Rattle.exb_control_spec.specs.Plans.HeldNumbers.{Held, group_used}
use Rattle.exb_control_spec.specs.Plans.Differences.{is_gone}
use Rattle.exb_control_spec.specs.Plans.Sets.{PortsAt}
use Rattle.exb_plan.specs.UseCounts.{count_at}
use Rattle.exb_plan.specs.RisingNumbers.{is_among}
use Rattle.exb_plan.specs.Recount.{parts_at}

-- one of the parts is the set of group g at bridge port k, from 0, and it has no use any more
abbrev pub is_left : Held → List (List ℕ) → List PortsAt → ℕ → ℕ → Bool
is_left h uses parts k g = nat_lt 0 (parts_at h parts k g) && count_at uses k g == 0

-- numbers of groups, each among those that there can be
abbrev pub AreGroups : List ℕ → Type 0
AreGroups xs = (g : ℕ) → is_among xs g ≡ true → (4096 ≤ g) × (g < 16384)

-- the groups of bridge port k whose sets aren't kept are those that lose their last use
abbrev pub AreLeft : Held → List (List ℕ) → List PortsAt → List PortsAt → ℕ → Type 0
AreLeft h uses parts kept k = (g : ℕ) → 4096 ≤ g → g < 16384 → is_gone kept h k g ≡ is_left h uses parts k g

-- each number is that of a group in use
abbrev pub AreInUse : Held → ℕ → List ℕ → Type 0
AreInUse h k xs = (g : ℕ) → is_among xs g ≡ true → group_used h k g ≡ true
