-- What comes, sorted by moments: what passes a test stays in its order, where that is one of moments.
use Rattle.std.proofs.Common.{◌≡◌, ◌≢◌, ℕ, zero, suc, ◌+◌, ◌<◌, ◌≤◌, ◌++◌, nat_lt, Bool, true, false, cond, List, [], ◌∷◌, filter, refl, ap, sym, ◌∙◌, subst, arith, inl, inr}
use Rattle.std.specs.Prelude.{flat_map}
use Rattle.std.specs.List.{range_with_len}
use Rattle.std.proofs.lemmas.Bool.{cases_Bool, cases_eq, cases_lt, lt-ltb, le-ltb}
use Rattle.std.proofs.lemmas.List.{append-nil}
use Rattle.std.proofs.lemmas.List.Elements.{filter-append}
use Rattle.exb_model.specs.Ports.{below}
use Rattle.exb_net_spec.specs.NetHistory.{Due, due_moment, dues_by_moment, put_due}

-- it comes no later than each of these
abbrev pub IsLow : Due → List Due → Type 0
IsLow x [] = Unit {0}
IsLow x (y ∷ ys) = (due_moment x ≤ due_moment y) × IsLow x ys

abbrev pub Rising : List Due → Type 0
Rising [] = Unit {0}
Rising (x ∷ xs) = IsLow x xs × Rising xs

module _ (test : Due → Bool) where
  put_in : (x : Due) (ys : List Due) → test x ≡ true → IsLow x (filter test ys) → filter test (put_due x ys) ≡ x ∷ filter test ys
  put_in x [] e low = rw e refl
  put_in x (y ∷ ys) e low =
      elim (cases_lt (due_moment y) (due_moment x)) [
        | inr not ↦ rw (le-ltb (due_moment y) (due_moment x) not, e) refl
        | inl less ↦ rw (lt-ltb (due_moment y) (due_moment x) less)
            (elim (cases_Bool (test y)) [
              | inl mine ↦ absurd (let z = (subst (λ (c : Bool). IsLow x (cond c (y ∷ filter test ys) (filter test ys))) mine low).0 in omega (arith, less, z))
              | inr other ↦ rw other (put_in x ys e (subst (λ (c : Bool). IsLow x (cond c (y ∷ filter test ys) (filter test ys))) other low))
            ])
      ]

  put_out : (x : Due) (ys : List Due) → test x ≡ false → filter test (put_due x ys) ≡ filter test ys
  put_out x [] e = rw e refl
  put_out x (y ∷ ys) e =
      elim (cases_Bool (nat_lt (due_moment y) (due_moment x))) [
        | inr not ↦ rw (not, e) refl
        | inl less ↦ rw less
            (elim (cases_Bool (test y)) [
              | inl mine ↦ rw mine (ap (λ (zs : List Due). y ∷ zs) (put_out x ys e))
              | inr other ↦ rw other (put_out x ys e)
            ])
      ]

  pub sorted_as : (xs : List Due) → Rising (filter test xs) → filter test (dues_by_moment xs) ≡ filter test xs
  sorted_as [] rising = refl
  sorted_as (x ∷ xs) rising =
      elim (cases_Bool (test x)) [
        | inl e ↦
            let all : Rising (x ∷ filter test xs) = subst (λ (c : Bool). Rising (cond c (x ∷ filter test xs) (filter test xs))) e rising in
            let ih = sorted_as xs all.1 in
            put_in x (dues_by_moment xs) e (subst (IsLow x) (sym ih) all.0) ∙ (ap (λ (zs : List Due). x ∷ zs) ih ∙ sym (ap (λ (c : Bool). cond c (x ∷ filter test xs) (filter test xs)) e))
        | inr e ↦
            let all : Rising (filter test xs) = subst (λ (c : Bool). Rising (cond c (x ∷ filter test xs) (filter test xs))) e rising in
            put_out x (dues_by_moment xs) e ∙ (sorted_as xs all ∙ sym (ap (λ (c : Bool). cond c (x ∷ filter test xs) (filter test xs)) e))
      ]

-- ---- of one number alone
module _ {A : Type 0} (test : A → Bool) (f : ℕ → List A) (b : ℕ) (others : (k : ℕ) → k ≢ b → filter test (f k) ≡ []) where
  none_from : (m k : ℕ) → b < k → filter test (flat_map f (range_with_len k m)) ≡ []
  none_from zero k low = refl
  none_from (suc m) k low =
      filter-append test (f k) (flat_map f (range_with_len (k + 1) m))
      ∙ (ap (λ (xs : List A). xs ++ filter test (flat_map f (range_with_len (k + 1) m))) (others k (λ e. omega (arith, e, low))) ∙ none_from m (k + 1) (omega (arith, low)))

  one_from : (m k : ℕ) → k ≤ b → b < k + m → filter test (flat_map f (range_with_len k m)) ≡ filter test (f b)
  one_from zero k low high = absurd (omega (arith, low, high))
  one_from (suc m) k low high =
      let rest : List A = flat_map f (range_with_len (k + 1) m) in
      filter-append test (f k) rest
      ∙ elim (cases_eq k b) [
        | inl same ↦ ap (λ (xs : List A). filter test (f k) ++ xs) (none_from m (k + 1) (omega (arith, same))) ∙ (append-nil (filter test (f k)) ∙ ap (λ (z : ℕ). filter test (f z)) same)
        | inr other ↦ ap (λ (xs : List A). xs ++ filter test rest) (others k other) ∙ one_from m (k + 1) (omega (arith, low, other)) (omega (arith, high))
      ]

  pub one_below : (m : ℕ) → b < m → filter test (flat_map f (below m)) ≡ filter test (f b)
  unfolding below
  one_below m low = one_from m 0 (omega arith) (omega (arith, low))
