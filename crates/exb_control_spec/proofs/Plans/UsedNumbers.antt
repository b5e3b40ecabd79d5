-- How many numbers of a range are used.
use Rattle.std.proofs.Common.{◌≡◌, ℕ, zero, suc, ◌+◌, ◌<◌, ◌≤◌, cond, Bool, true, false, not, List, [], ◌∷◌, Some, length, refl, sym, ◌∙◌, ap, arith, inl, inr, ◌⊎◌}
use Rattle.std.specs.List.{list_any, range_with_len}
use Rattle.std.proofs.lemmas.Bool.{cases_eq, cases_Bool, or_cases, or_left, or_right, false≢true, false_from_ne_true}
use Rattle.exb_model.specs.LowestFree.{lowest_free}
use Rattle.exb_control_spec.specs.Plans.FreshSets.{how_many}
use Rattle.exb_control_spec.proofs.Plans.Ranges.{found}
use Rattle.exb_control_spec.proofs.Plans.Bools.{is_not}

pub record IsLowest (used : ℕ → Bool) (a n m : ℕ) : Type 0 where
  pub is : lowest_free used a n ≡ Some m
  pub low : a ≤ m
  pub high : m < a + n
  pub free : used m ≡ false

-- where not all are used, there is a lowest one that isn't
pub lowest_there : (used : ℕ → Bool) (a n : ℕ) → how_many used (range_with_len a n) < n → (m : ℕ) × IsLowest used a n m
unfolding lowest_free
lowest_there used a zero h = absurd (omega arith)
lowest_there used a (suc n) h =
    elim (cases_Bool (used a)) [
      | inl e ↦ go e (lowest_there used (a + 1) n (let k = rw e at h in omega (arith, k)))
      | inr e ↦ (a, record { is = rw e refl; low = omega arith; high = omega arith; free = e })
    ]
  where
    go : used a ≡ true → ((m : ℕ) × IsLowest used (a + 1) n m) → (m : ℕ) × IsLowest used a (suc n) m
    go e r = (r.0, record { is = rw e r.1.is; low = (let l = r.1.low in omega (arith, l)); high = (let l = r.1.high in omega (arith, l)); free = r.1.free })

pub lowest_unused : (used : ℕ → Bool) (a n m : ℕ) → lowest_free used a n ≡ Some m → used m ≡ false
unfolding lowest_free
lowest_unused used a n m e = (let f = found (λ c. not (used c)) a n m e in is_not (used m) f.passes)

pub count_less : (t u : ℕ → Bool) (a n : ℕ) → ((g : ℕ) → a ≤ g → u g ≡ true → t g ≡ true) → how_many u (range_with_len a n) ≤ how_many t (range_with_len a n)
count_less t u a zero h = omega arith
count_less t u a (suc n) h =
    let rest = count_less t u (a + 1) n (λ g l e. h g (omega arith) e) in
    elim (cases_Bool (u a)) [
      | inl e ↦ rw (e, h a (omega arith) e) (omega (arith, rest))
      | inr e ↦ elim (cases_Bool (t a)) [
        | inl f ↦ rw (e, f) (omega (arith, rest))
        | inr f ↦ rw (e, f) (omega (arith, rest))
      ]
    ]

-- with one number more at most one more is used
pub count_more : (t u : ℕ → Bool) (m a n : ℕ) → ((g : ℕ) → u g ≡ true → (g ≡ m) ⊎ (t g ≡ true)) → how_many u (range_with_len a n) ≤ how_many t (range_with_len a n) + 1
count_more t u m a zero h = omega arith
count_more t u m a (suc n) h =
    elim (cases_eq a m) [
      | inl f ↦
          let rest = count_less t u (a + 1) n (λ g l e. elim (h g e) [ inl x ↦ absurd (omega arith) | inr x ↦ x ]) in
          elim (cases_Bool (u a)) [
            | inl e ↦ elim (cases_Bool (t a)) [ inl x ↦ rw (e, x) (omega (arith, rest)) | inr x ↦ rw (e, x) (omega (arith, rest)) ]
            | inr e ↦ elim (cases_Bool (t a)) [ inl x ↦ rw (e, x) (omega (arith, rest)) | inr x ↦ rw (e, x) (omega (arith, rest)) ]
          ]
      | inr f ↦
          let rest = count_more t u m (a + 1) n h in
          elim (cases_Bool (u a)) [
            | inl e ↦ elim (h a e) [ inl x ↦ absurd (f x) | inr x ↦ rw (e, x) (omega (arith, rest)) ]
            | inr e ↦ elim (cases_Bool (t a)) [ inl x ↦ rw (e, x) (omega (arith, rest)) | inr x ↦ rw (e, x) (omega (arith, rest)) ]
          ]
    ]

-- no more numbers are used than there are things of which each one has its own
module _ {X : Type 0} (same : X → X → Bool) (to : (x y : X) → same x y ≡ true → x ≡ y) where
  without : X → List X → List X
  without x [] = []
  without x (y ∷ ys) = cond (same x y) ys (y ∷ without x ys)

  shorter : (x : X) (xs : List X) → list_any (same x) xs ≡ true → suc (length (without x xs)) ≡ length xs
  unfolding without
  shorter x [] h = absurd (false≢true h)
  shorter x (y ∷ ys) h =
      elim (cases_Bool (same x y)) [
        | inl e ↦ rw e refl
        | inr e ↦ rw e (ap suc (shorter x ys (rw e at h)))
      ]

  still : (x z : X) (xs : List X) → same z x ≡ false → list_any (same z) xs ≡ true → list_any (same z) (without x xs) ≡ true
  unfolding without
  still x z [] apart h = h
  still x z (y ∷ ys) apart h =
      elim (cases_Bool (same x y)) [
        | inl e ↦
            let other : same z y ≡ false = ap (same z) (sym (to x y e)) ∙ apart in
            rw e (rw other at h)
        | inr e ↦
            rw e (elim (or_cases (same z y) (list_any (same z) ys) h) [
              | inl f ↦ or_left _ _ f
              | inr f ↦ or_right _ _ (still x z ys apart f)
            ])
      ]

  pub few_used : (f : ℕ → X) (used : ℕ → Bool) → ((g m : ℕ) → used g ≡ true → used m ≡ true → f g ≡ f m → g ≡ m) → (a n : ℕ) (xs : List X) →
      ((g : ℕ) → a ≤ g → used g ≡ true → list_any (same (f g)) xs ≡ true) → how_many used (range_with_len a n) ≤ length xs
  few_used f used one a zero xs sound = omega arith
  few_used f used one a (suc n) xs sound =
      elim (cases_Bool (used a)) [
        | inr e ↦ rw e (let r = few_used f used one (a + 1) n xs (λ g l u. sound g (omega arith) u) in omega (arith, r))
        | inl e ↦
            let s : suc (length (without (f a) xs)) ≡ length xs = shorter (f a) xs (sound a (omega arith) e) in
            let r : how_many used (range_with_len (a + 1) n) ≤ length (without (f a) xs) =
            few_used f used one (a + 1) n (without (f a) xs) (λ g l u.
            let apart : same (f g) (f a) ≡ false = false_from_ne_true _ (λ y. let i : g ≡ a = one g a u e (to (f g) (f a) y) in absurd (omega arith)) in
            still (f a) (f g) xs apart (sound g (omega arith) u)) in
            rw e (omega (arith, r, s))
      ]
