-- How many groups are needed for two configurations.
use Rattle.std.proofs.Common.{◌≡◌, ℕ, zero, suc, ◌+◌, ◌-◌, ◌<◌, ◌≤◌, cond, Bool, true, false, not, List, [], ◌∷◌, Option, Some, None, length, map, filter, refl, sym, ◌∙◌, ap, arith, inl, inr, length-append}
use Rattle.std.specs.Prelude.{bytes_eq, nat_lt, find}
use Rattle.std.specs.List.{list_any, range_with_len}
use Rattle.std.proofs.lemmas.Bool.{cases_Bool, eqb-true, ne_eqb, le-ltb, false≢true}
use Rattle.exb_model.specs.declared.event.Cause.TheVariants as cause
use Rattle.exb_model.specs.Ports.{below}
use Rattle.exb_model.specs.Tree.{Shape, IsTree, is_cascade}
use Rattle.exb_model.specs.Setup.{Limits}
use Rattle.exb_model.specs.Configuration.{Bridge}
use Rattle.exb_model.specs.Refusals.{is_empty_set, sets_at, groups_needed, groups_short_at, groups_cause, groups_short}
use Rattle.exb_control_spec.specs.Plans.Sets.{PortsAt, sets_of}
use Rattle.exb_control_spec.proofs.Plans.SpaceSets.{sets_of_each}
use Rattle.exb_control_spec.specs.Plans.Differences.{has_set, fresh_sets}
use Rattle.exb_control_spec.specs.Plans.FreshSets.{how_many, is_at, needed_at, is_short, short_of, short_by}
use Rattle.exb_control_spec.proofs.Plans.Ranges.{IsFound, found}
use Rattle.exb_control_spec.proofs.Plans.DistinctLists.{fold_put, others}
use Rattle.exb_control_spec.proofs.Plans.EachElement.{Each, each_map, how_many-none, image_passes}
use Rattle.exb_control_spec.proofs.Plans.SetFacts.{IsBelow, sets_below, space_sets_apart, bytes_is, bytes_itself, at_port, count_at}

module _ (t : Shape) (old new : Bridge) where
  -- what the new configuration needs beside the sets of the old one are the fresh sets
  fresh_at : (k : ℕ) → k < 64 → length (others is_empty_set bytes_eq (sets_at t k old) (sets_at t k new)) ≡ how_many (is_at (k + 1)) (fresh_sets t old new)
  unfolding fresh_sets
  fresh_at k l =
      ap (λ (xs : List (List ℕ)). length (others is_empty_set bytes_eq (sets_at t k old) xs)) (sym (sets_of_each t new k l))
      ∙ image_passes (λ (s : PortsAt). s.ports) (is_at (k + 1)) (λ s. not (has_set (sets_of t old) s)) (λ set. not (list_any (bytes_eq set) (sets_at t k old))) (sets_of t new)
      (λ s e. ap not (same s (eqb-true _ _ e)))
    where
      same : (s : PortsAt) → s.bridge_port ≡ k + 1 → list_any (bytes_eq s.ports) (sets_at t k old) ≡ has_set (sets_of t old) s
      same s e =
          sym (at_port s (sets_of t old)
          ∙ (ap (λ (n : ℕ). list_any (bytes_eq s.ports) (map (λ x. x.ports) (filter (is_at n) (sets_of t old)))) e
          ∙ ap (list_any (bytes_eq s.ports)) (sets_of_each t old k l)))

  pub needed_is : (k : ℕ) → k < 64 → groups_needed t k old new ≡ needed_at (sets_of t old) (fresh_sets t old new) (k + 1)
  unfolding groups_needed
  needed_is k l =
      ap length (fold_put is_empty_set bytes_eq bytes_is bytes_itself (sets_at t k new) (sets_at t k old) (space_sets_apart t new k))
      ∙ (length-append (sets_at t k old) (others is_empty_set bytes_eq (sets_at t k old) (sets_at t k new))
      ∙ (ap (λ (n : ℕ). n + length (others is_empty_set bytes_eq (sets_at t k old) (sets_at t k new))) (count_at t old k l)
      ∙ ap (λ (n : ℕ). how_many (is_at (k + 1)) (sets_of t old) + n) (fresh_at k l)))

  none_at : (k : ℕ) → is_cascade t k ≡ false → (xs : List PortsAt) → Each (IsBelow t) xs → how_many (is_at (k + 1)) xs ≡ 0
  none_at k off xs h = how_many-none (is_at (k + 1)) xs (each_map (IsBelow t) (λ s. is_at (k + 1) s ≡ false) xs (λ s is. ne_eqb s.bridge_port (k + 1) (λ e.
      let place : s.bridge_port - 1 ≡ k = omega (arith, e) in
      false≢true (sym off ∙ ap (is_cascade t) (sym place) ∙ is.cascade))) h)

  needed_nowhere : IsTree t → (k : ℕ) → is_cascade t k ≡ false → needed_at (sets_of t old) (fresh_sets t old new) (k + 1) ≡ 0
  unfolding fresh_sets
  needed_nowhere valid k off =
      let a = none_at k off (sets_of t old) (sets_below t valid old) in
      let b = none_at k off (filter (λ s. not (has_set (sets_of t old) s)) (sets_of t new)) (kept (sets_of t new) (sets_below t valid new)) in
      omega (arith, a, b)
    where
      kept : (xs : List PortsAt) → Each (IsBelow t) xs → Each (IsBelow t) (filter (λ s. not (has_set (sets_of t old) s)) xs)
      kept [] h = tt
      kept (x ∷ xs) h =
          elim (cases_Bool (has_set (sets_of t old) x)) [
            | inl e ↦ rw e (kept xs h.1)
            | inr e ↦ rw e (h.0, kept xs h.1)
          ]

  -- the test of the code is the definition's
  short_is : IsTree t → (l : Limits) (k : ℕ) → k < 64 → is_short t l (sets_of t old) (fresh_sets t old new) k ≡ nat_lt l.groups (groups_needed t k old new)
  short_is valid l k low =
      elim (cases_Bool (is_cascade t k)) [
        | inl e ↦ rw e (ap (nat_lt l.groups) (sym (needed_is k low)))
        | inr e ↦ rw e (sym (ap (nat_lt l.groups) (needed_is k low ∙ needed_nowhere valid k e) ∙ none l.groups))
      ]
    where
      none : (n : ℕ) → nat_lt n 0 ≡ false
      none n = le-ltb n 0 (omega arith)

  find_same : (p r : ℕ → Bool) (a n : ℕ) → ((k : ℕ) → a ≤ k → k < a + n → p k ≡ r k) → find p (range_with_len a n) ≡ find r (range_with_len a n)
  find_same p r a zero same = refl
  find_same p r a (suc n) same =
      ap (λ b. cond b (Some a) (find p (range_with_len (a + 1) n))) (same a (omega arith) (omega arith))
      ∙ ap (λ o. cond (r a) (Some a) o) (find_same p r (a + 1) n (λ k l h. same k (omega arith) (omega arith)))

  cause_is : (l : Limits) (o : Option ℕ) → ((k : ℕ) → o ≡ Some k → (k < 64) × (nat_lt l.groups (groups_needed t k old new) ≡ true)) →
      short_of l (sets_of t old) (fresh_sets t old new) o ≡ groups_cause t l old new o
  cause_is l None h = refl
  cause_is l (Some k) h =
      let is : (k < 64) × (nat_lt l.groups (groups_needed t k old new) ≡ true) = h k refl in
      same_cause l.groups (needed_at (sets_of t old) (fresh_sets t old new) (k + 1)) (groups_needed t k old new) (sym (needed_is k is.0)) is.1
    where
      same_cause : (g n m : ℕ) → n ≡ m → nat_lt g m ≡ true → cond (nat_lt g n) (Some (cause.Groups n g)) None ≡ Some (cause.Groups m g)
      same_cause g n m e f = let x : nat_lt g n ≡ true = ap (nat_lt g) e ∙ f in rw x (ap (λ (y : ℕ). Some (cause.Groups y g)) e)

  pub groups_short_is : IsTree t → (l : Limits) → short_by t l (sets_of t old) (fresh_sets t old new) ≡ groups_short t l old new
  unfolding short_by groups_short_at below
  groups_short_is valid l =
      ap (short_of l (sets_of t old) (fresh_sets t old new)) (find_same (is_short t l (sets_of t old) (fresh_sets t old new)) (λ k. nat_lt l.groups (groups_needed t k old new)) 0 64 (λ k a h. short_is valid l k (omega (arith, h))))
      ∙ cause_is l (find (λ k. nat_lt l.groups (groups_needed t k old new)) (range_with_len 0 64))
      (λ k e. let f : IsFound (λ k. nat_lt l.groups (groups_needed t k old new)) 0 64 k = found (λ k. nat_lt l.groups (groups_needed t k old new)) 0 64 k e in (omega (arith, f.high), f.passes))
