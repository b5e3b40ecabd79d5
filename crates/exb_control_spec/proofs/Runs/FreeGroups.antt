-- Groups that are free when their turn comes.
use Rattle.std.proofs.Common.{◌≡◌, ◌≢◌, ◌⊎◌, ℕ, ◌+◌, ◌-◌, ◌<◌, ◌≤◌, true, false, not, List, [], ◌∷◌, Option, Some, None, refl, sym, ◌∙◌, ap, arith, inl, inr}
use Rattle.std.specs.Prelude.{is_some}
use Rattle.std.proofs.lemmas.Bool.{cases_eq, false≢true}
use Rattle.exb_model.specs.Refusals.{is_empty_set}
use Rattle.exb_control_spec.specs.Plans.Sets.{PortsAt}
use Rattle.exb_model.specs.LowestFree.{lowest_free}
use Rattle.exb_control_spec.specs.Plans.HeldNumbers.{Held, Group, group_used, or_zero, group_for, give, give_all, numbered}
use Rattle.exb_control_spec.specs.Plans.FreshSets.{AreFresh}
use Rattle.exb_control_spec.proofs.Plans.Ranges.{IsFound, found}
use Rattle.exb_control_spec.proofs.Plans.EachElement.{Each, each_map}
use Rattle.exb_control_spec.proofs.Plans.GroupClaims.{AreLow, given_here, given_else, free_set}

pub record IsFreeGroup (h : Held) (x : Group) : Type 0 where
  pub from1 : 1 ≤ x.bridge_port
  pub low : 4096 ≤ x.number
  pub high : x.number < 16384
  pub some : is_empty_set x.ports ≡ false
  pub free : h.set (x.bridge_port - 1) x.number ≡ []

abbrev pub AreFreeGroups : Held → List Group → Type 0
AreFreeGroups h [] = Unit {0}
AreFreeGroups h (x ∷ xs) = IsFreeGroup h x × AreFreeGroups (give x h) xs

module _ (groups : ℕ) (few : groups ≤ 12288) where
  free_range : (h : Held) (k : ℕ) (o : Option ℕ) → lowest_free (group_used h k) 4096 groups ≡ o → is_some o ≡ true → (4096 ≤ or_zero o) × (or_zero o < 16384)
  unfolding lowest_free
  free_range h k None e s = absurd (false≢true s)
  free_range h k (Some m) e s =
      let f : IsFound (λ c. not (group_used h k c)) 4096 groups m = found (λ c. not (group_used h k c)) 4096 groups m e in
      let a = f.low in let b = f.high in (a, omega (arith, b, few))

  pub are_free : (h : Held) (sets : List PortsAt) → AreFresh groups h sets → AreLow sets → AreFreeGroups h (numbered groups h sets)
  unfolding numbered
  are_free h [] fresh low = tt
  are_free h (s ∷ sets) fresh low =
      let k = s.bridge_port - 1 in
      let range = free_range h k (lowest_free (group_used h k) 4096 groups) refl fresh.0.free in (
        record { from1 = low.0; low = range.0; high = range.1; some = fresh.0.some; free = free_set groups h k fresh.0.free },
        are_free (give (group_for groups h s) h) sets fresh.1 low.1,
      )

-- what was held stays
pub held_stays : (h : Held) (xs : List Group) → AreFreeGroups h xs → (k g : ℕ) → group_used h k g ≡ true → (give_all xs h).set k g ≡ h.set k g
unfolding give_all
held_stays h [] free k g used = refl
held_stays h (x ∷ xs) free k g used = held_stays (give x h) xs free.1 k g (ap (λ s. not (is_empty_set s)) one ∙ used) ∙ one
  where
    none : k ≡ x.bridge_port - 1 → g ≡ x.number → ⊥
    none p n = false≢true (sym (ap (λ s. not (is_empty_set s)) (ap (λ (m : ℕ). h.set m g) p ∙ (ap (h.set (x.bridge_port - 1)) n ∙ free.0.free))) ∙ used)

    one : (give x h).set k g ≡ h.set k g
    one = given_else x h k g (λ e n. none (let l = free.0.from1 in omega (arith, e, l)) n)

-- and what is held then was, or is a group's
pub given_low : (h : Held) (xs : List Group) → AreFreeGroups h xs → (k : ℕ) → ((g : ℕ) → group_used h k g ≡ true → 4096 ≤ g) → (g : ℕ) → group_used (give_all xs h) k g ≡ true → 4096 ≤ g
unfolding give_all
given_low h [] free k low g used = low g used
given_low h (x ∷ xs) free k low g used = given_low (give x h) xs free.1 k one g used
  where
    one : (g : ℕ) → group_used (give x h) k g ≡ true → 4096 ≤ g
    one g used = elim (cases_eq g x.number) [
      | inl e ↦ (let l = free.0.low in omega (arith, e, l))
      | inr n ↦ low g (ap (λ s. not (is_empty_set s)) (sym (given_else x h k g (λ e. n))) ∙ used)
    ]

-- each group was free from the start
pub free_each : (h : Held) (xs : List Group) → AreFreeGroups h xs → Each (IsFreeGroup h) xs
free_each h [] free = tt
free_each h (x ∷ xs) free = (free.0, each_map (IsFreeGroup (give x h)) (IsFreeGroup h) xs before (free_each (give x h) xs free.1))
  where
    before : (y : Group) → IsFreeGroup (give x h) y → IsFreeGroup h y
    before y f = record { from1 = f.from1; low = f.low; high = f.high; some = f.some; free = by_place (cases_eq (y.bridge_port - 1 + 1) x.bridge_port) (cases_eq y.number x.number) }
      where
        by_place : (y.bridge_port - 1 + 1 ≡ x.bridge_port) ⊎ (y.bridge_port - 1 + 1 ≢ x.bridge_port) → (y.number ≡ x.number) ⊎ (y.number ≢ x.number) → h.set (y.bridge_port - 1) y.number ≡ []
        by_place (inr d) n = sym (given_else x h (y.bridge_port - 1) y.number (λ e. absurd (d e))) ∙ f.free
        by_place (inl e) (inr d) = sym (given_else x h (y.bridge_port - 1) y.number (λ _. d)) ∙ f.free
        by_place (inl e) (inl n) =
            let none : x.ports ≡ [] = sym (given_here x h (y.bridge_port - 1) y.number e n) ∙ f.free in
            absurd (false≢true (sym free.0.some ∙ ap is_empty_set none))
