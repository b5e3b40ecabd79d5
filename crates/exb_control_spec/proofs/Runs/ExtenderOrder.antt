-- Each extender stands once in the order of depth and number.
use Rattle.std.proofs.Common.{◌≡◌, ℕ, zero, suc, ◌<◌, ◌≤◌, ◌==◌, ◌||◌, ◌++◌, Bool, true, false, List, [], ◌∷◌, length, slice_index, refl, sym, ◌∙◌, subst, arith, inl, inr, eq-eqb}
use Rattle.std.proofs.lemmas.Bool.{cases_eq, cases_Bool, ne_eqb, eqb-true, and_parts, false≢true, false_from_ne_true}
use Rattle.std.proofs.lemmas.List.Folds.{list_any-append}
use Rattle.exb_model.specs.Tree.{Shape, HangsOn, on, depth, hangs_at_depth, level, levels, by_depth}
use Rattle.exb_model.proofs.TreeLoops.{by_depth_is}
use Rattle.exb_model.proofs.TreeOrder.{by_depth-hangs, place_of}
use Rattle.exb_csp.proofs.ExecutionLaws.{or_false}
use Rattle.exb_model.specs.Lists.{is_listed}
use Rattle.exb_control_spec.proofs.Runs.EqualTables.{AreDistinct}

-- nothing of the second is in the first
distinct_joined : (xs ys : List ℕ) → AreDistinct xs → AreDistinct ys → ((n : ℕ) → is_listed xs n ≡ true → is_listed ys n ≡ false) → AreDistinct (xs ++ ys)
distinct_joined [] ys dx dy h = dy
distinct_joined (x ∷ xs) ys dx dy h = (
  list_any-append (λ y. y == x) xs ys ∙ (rw (dx.0, h x (rw (eq-eqb x x refl) refl)) refl),
  distinct_joined xs ys dx.1 dy (λ n k. h n (rw k (right (x == n)))),
)
  where
    right : (b : Bool) → (b || true) ≡ true
    right true = refl
    right false = refl

-- what stands on a level hangs at its depth, and has a number up to k
pub record OnLevel (t : Shape) (d k n : ℕ) : Type 0 where
  pub deep : depth t n ≡ d
  pub low : n ≤ k

pub on_level : (t : Shape) (d k n : ℕ) → is_listed (level t d k) n ≡ true → OnLevel t d k n
unfolding level
on_level t d zero n h = absurd (false≢true h)
on_level t d (suc k) n h =
    elim (cases_Bool (hangs_at_depth t (suc k) d)) [
      | inl e ↦
          let split : (is_listed (level t d k) n || (suc k == n || false)) ≡ true = sym (list_any-append (λ x. x == n) (level t d k) (suc k ∷ [])) ∙ (rw e at h) in
          elim (cases_eq (suc k) n) [
            | inl f ↦ record { deep = subst (λ (m : ℕ). depth t m ≡ d) f (eqb-true _ _ (and_parts _ _ e).1); low = omega arith }
            | inr f ↦
                let rest : is_listed (level t d k) n ≡ true = sym (or_false _) ∙ (rw (ne_eqb (suc k) n f) at split) in
                let o = on_level t d k n rest in
                record { deep = o.deep; low = omega (arith, o.low) }
          ]
      | inr e ↦
          let split : (is_listed (level t d k) n || false) ≡ true = sym (list_any-append (λ x. x == n) (level t d k) []) ∙ (rw e at h) in
          let o = on_level t d k n (sym (or_false _) ∙ split) in
          record { deep = o.deep; low = omega (arith, o.low) }
    ]

pub distinct_level : (t : Shape) (d k : ℕ) → AreDistinct (level t d k)
unfolding level
distinct_level t d zero = tt
distinct_level t d (suc k) =
    elim (cases_Bool (hangs_at_depth t (suc k) d)) [
      | inl e ↦ rw e (distinct_joined (level t d k) (suc k ∷ []) (distinct_level t d k) (refl, tt)
          (λ n h. let o = on_level t d k n h in rw (ne_eqb (suc k) n (λ f. absurd (omega (arith, o.low)))) refl))
      | inr e ↦ rw e (distinct_joined (level t d k) [] (distinct_level t d k) tt (λ n h. refl))
    ]

pub on_levels : (t : Shape) (d n : ℕ) → is_listed (levels t d) n ≡ true → depth t n ≤ d
unfolding levels
on_levels t zero n h = absurd (false≢true h)
on_levels t (suc d) n h =
    let split : (is_listed (levels t d) n || is_listed (level t (suc d) 64) n) ≡ true = sym (list_any-append (λ x. x == n) (levels t d) (level t (suc d) 64)) ∙ h in
    elim (cases_Bool (is_listed (levels t d) n)) [
      | inl e ↦ let o = on_levels t d n e in omega (arith, o)
      | inr e ↦
          let last : is_listed (level t (suc d) 64) n ≡ true = rw e at split in
          let o = (on_level t (suc d) 64 n last).deep in omega (arith, o)
    ]

distinct_levels : (t : Shape) (d : ℕ) → AreDistinct (levels t d)
unfolding levels
distinct_levels t zero = tt
distinct_levels t (suc d) =
    distinct_joined (levels t d) (level t (suc d) 64) (distinct_levels t d) (distinct_level t (suc d) 64) (λ n h.
    let low = on_levels t d n h in
    false_from_ne_true _ (λ k. let o = (on_level t (suc d) 64 n k).deep in absurd (omega (arith, o, low))))

pub distinct_by_depth : (t : Shape) → AreDistinct (by_depth t)
distinct_by_depth t = rw (by_depth_is t) (distinct_levels t 64)

-- and is one of the tree
pub listed_hangs : (t : Shape) (n : ℕ) → is_listed (by_depth t) n ≡ true → HangsOn t n (on t n)
listed_hangs t n e =
    let at : (j : ℕ) × (j < length (by_depth t)) × (slice_index (by_depth t) j ≡ n) = place_of n (by_depth t) e in
    subst (λ (m : ℕ). HangsOn t m (on t m)) at.2 (by_depth-hangs t at.0 at.1)
