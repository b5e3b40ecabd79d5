-- Lists in which nothing stands twice, against lists that have all their elements.
use Rattle.std.proofs.Common.{◌≡◌, ℕ, zero, suc, ◌+◌, ◌<◌, ◌≤◌, Bool, true, false, not, cond, List, [], ◌∷◌, length, map, filter, refl, sym, ◌∙◌, ap, arith, inl, inr}
use Rattle.std.specs.Prelude.{count_by}
use Rattle.std.specs.List.{list_any, range_with_len}
use Rattle.std.proofs.lemmas.Bool.{cases_eq, or_parts, or_left, or_right, ltb-true}
use Rattle.std.proofs.lemmas.List.Sums.{length-filter}
use Rattle.std.proofs.lemmas.List.Filters.{length-filter_both}
use Rattle.exb_control_spec.proofs.Plans.DistinctLists.{AreSets}
use Rattle.exb_control_spec.proofs.Plans.EachElement.{Each}
use Rattle.exb_control_spec.proofs.Plans.ListTests.{any_counts}
use Rattle.exb_control_spec.proofs.Plans.DistinctInsertion.{kept_has}

module _ {X : Type 0} (empty : X → Bool) (same : X → X → Bool) (to : (x y : X) → same x y ≡ true → x ≡ y) (itself : (x : X) → same x x ≡ true) where
  -- all but one are still there without that one
  still_there : (x : X) (xs ys : List X) → list_any (same x) xs ≡ false → Each (λ z. list_any (same z) ys ≡ true) xs → Each (λ z. list_any (same z) (filter (λ y. not (same x y)) ys) ≡ true) xs
  still_there x [] ys apart all = tt
  still_there x (z ∷ zs) ys apart all =
      let parts = or_parts (same x z) (list_any (same x) zs) apart in
      (kept_has empty same to itself (λ y. not (same x y)) z (ap not parts.0) ys ∙ all.0, still_there x zs ys parts.1 all.1)

  pub few_covered : (xs ys : List X) → AreSets empty same xs → Each (λ z. list_any (same z) ys ≡ true) xs → length xs ≤ length ys
  few_covered [] ys are all = omega arith
  few_covered (x ∷ xs) ys are all =
      let rest = few_covered xs (filter (λ y. not (same x y)) ys) are.2 (still_there x xs ys are.1 all.1) in
      let both : length (filter (same x) ys) + length (filter (λ y. not (same x y)) ys) ≡ length ys = length-filter_both (same x) (λ y. not (same x y)) (λ y. refl) ys in
      let count : length (filter (same x) ys) ≡ count_by (same x) ys = length-filter (same x) ys in
      let some : 0 < count_by (same x) ys = ltb-true 0 _ (sym (any_counts (same x) ys) ∙ all.0) in
      omega (arith, rest, both, count, some)

  -- each element is there
  pub each_there : (P : X → Type 0) (xs ys : List X) → ((x : X) → list_any (same x) ys ≡ true → list_any (same x) xs ≡ true) →
      ((x : X) → list_any (same x) xs ≡ true → P x) → Each P ys
  each_there P xs [] within is = tt
  each_there P xs (y ∷ ys) within is = (is y (within y (or_left _ _ (itself y))), each_there P xs ys (λ x e. within x (or_right _ _ e)) is)

-- what the numbers of a range that pass stand for
pub image_there : {X : Type 0} (test : X → Bool) (f : ℕ → X) (used : ℕ → Bool) (a n g : ℕ) → a ≤ g → g < a + n → used g ≡ true → test (f g) ≡ true →
    list_any test (map f (filter used (range_with_len a n))) ≡ true
image_there test f used a zero g low high u e = absurd (omega arith)
image_there test f used a (suc n) g low high u e =
    elim (cases_eq g a) [
      | inl s ↦ rw (ap used (sym s) ∙ u) (or_left (test (f a)) _ (ap (λ m. test (f m)) (sym s) ∙ e))
      | inr s ↦ by_test (used a) (image_there test f used (a + 1) n g (omega arith) (omega arith) u e)
    ]
  where
    by_test : (b : Bool) → list_any test (map f (filter used (range_with_len (a + 1) n))) ≡ true →
        list_any test (map f (cond b (a ∷ filter used (range_with_len (a + 1) n)) (filter used (range_with_len (a + 1) n)))) ≡ true
    by_test true rest = or_right (test (f a)) _ rest
    by_test false rest = rest
