-- The groups of a bridge port that go, from their numbers in rising order.
use Rattle.std.proofs.Common.{◌≡◌, ℕ, ◌<◌, ◌≤◌, true, List, map, ap}
use Rattle.exb_control_spec.specs.Plans.Sets.{PortsAt}
use Rattle.exb_control_spec.specs.Plans.HeldNumbers.{Held}
use Rattle.exb_control_spec.specs.Plans.Differences.{group_at, is_gone, gone_at}
use Rattle.exb_plan.specs.RisingNumbers.{is_among, IsRising}
use Rattle.exb_plan.proofs.RisingNumbers.{rising_are}

pub gone_at_are : (kept : List PortsAt) (h : Held) (k : ℕ) (xs : List ℕ) → IsRising xs → ((g : ℕ) → is_among xs g ≡ true → (4096 ≤ g) × (g < 16384)) →
    ((g : ℕ) → 4096 ≤ g → g < 16384 → is_among xs g ≡ is_gone kept h k g) → map (group_at h k) xs ≡ gone_at kept h k
unfolding gone_at
gone_at_are kept h k xs rising within same = ap (map (group_at h k)) (rising_are (is_gone kept h k) 4096 12288 xs rising within same)
