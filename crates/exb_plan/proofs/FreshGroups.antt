-- Fresh sets, and the groups that they get, stand in spaces.
use Rattle.std.proofs.Common.{◌≡◌, ℕ, ◌-◌, true, not, List, [], ◌∷◌}
use Rattle.exb_model.specs.Tree.{Shape, IsTree}
use Rattle.exb_model.specs.Configuration.{Bridge}
use Rattle.exb_numbers.specs.Spaces.{Spaces}
use Rattle.exb_control_spec.specs.Plans.Sets.{PortsAt, sets_of}
use Rattle.exb_control_spec.specs.Plans.HeldNumbers.{Held, Group, HoldsNeeded, group_for, give, numbered}
use Rattle.exb_control_spec.specs.Plans.Differences.{has_set, fresh_sets}
use Rattle.exb_control_spec.specs.Plans.FreshSets.{AreFresh}
use Rattle.exb_plan.specs.PlanValues.{ArePlaced, AreGiven, SpacesOf}
use Rattle.exb_control_spec.proofs.Plans.EachElement.{Each}
use Rattle.exb_control_spec.proofs.Plans.SetFacts.{IsBelow}
use Rattle.exb_control_spec.proofs.Plans.GroupClaims.{free_set}
use Rattle.exb_control_spec.proofs.Plans.FreshSets.{fresh_below}

placed_all : (t : Shape) (old : Bridge) (v : Spaces) → SpacesOf t v → (xs : List PortsAt) → Each (λ s. IsBelow t s × (not (has_set (sets_of t old) s) ≡ true)) xs → ArePlaced v xs
placed_all t old v spaces [] a = tt
placed_all t old v spaces (x ∷ xs) a = ((a.0.0.from1, spaces (x.bridge_port - 1) a.0.0.low a.0.0.cascade), placed_all t old v spaces xs a.1)

pub placed_fresh : (t : Shape) → IsTree t → (old new : Bridge) (h : Held) → HoldsNeeded t old h → (v : Spaces) → SpacesOf t v → ArePlaced v (fresh_sets t old new)
placed_fresh t valid old new h needed v spaces = placed_all t old v spaces (fresh_sets t old new) (fresh_below t valid old new h needed)

module _ (groups : ℕ) where
  pub are_given : (v : Spaces) (h : Held) (sets : List PortsAt) → AreFresh groups h sets → ArePlaced v sets → AreGiven v h (numbered groups h sets)
  unfolding numbered
  are_given v h [] fresh placed = tt
  are_given v h (s ∷ sets) fresh placed =
      let x : Group = group_for groups h s in (
        record { from1 = placed.0.0; cascade = placed.0.1; some = fresh.0.some; free = free_set groups h (s.bridge_port - 1) fresh.0.free },
        are_given v (give x h) sets fresh.1 placed.1,
      )
