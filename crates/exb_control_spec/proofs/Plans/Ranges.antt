-- The first number of a range that passes a test.
use Rattle.std.proofs.Common.{◌≡◌, ℕ, zero, suc, ◌+◌, ◌<◌, ◌≤◌, Bool, true, false, refl, sym, ap, ◌∙◌, inl, inr, arith}
use Rattle.std.specs.Prelude.{Some, None, find}
use Rattle.std.specs.List.{range_with_len}
use Rattle.std.proofs.lemmas.Bool.{cases_eq, cases_Bool}

pub find_first : (test : ℕ → Bool) (a n k : ℕ) → a ≤ k → k < a + n → test k ≡ true → ((c : ℕ) → a ≤ c → c < k → test c ≡ false) → find test (range_with_len a n) ≡ Some k
find_first test a zero k low high is before = absurd (omega arith)
find_first test a (suc n) k low high is before =
    elim (cases_eq a k) [
      | inl e ↦ rw (ap test e ∙ is) (ap Some e)
      | inr other ↦ rw (before a (omega arith) (omega arith)) (find_first test (a + 1) n k (omega arith) (omega arith) is (λ c l h. before c (omega arith) h))
    ]

pub find_none : (test : ℕ → Bool) (a n : ℕ) → ((c : ℕ) → a ≤ c → c < a + n → test c ≡ false) → find test (range_with_len a n) ≡ None
find_none test a zero none = refl
find_none test a (suc n) none = rw (none a (omega arith) (omega arith)) (find_none test (a + 1) n (λ c l h. none c (omega arith) (omega arith)))

-- what is found is in the range, passes, and no number before it does
pub record IsFound (test : ℕ → Bool) (a n k : ℕ) : Type 0 where
  pub low : a ≤ k
  pub high : k < a + n
  pub passes : test k ≡ true

pub found : (test : ℕ → Bool) (a n k : ℕ) → find test (range_with_len a n) ≡ Some k → IsFound test a n k
found test a zero k e = absurd (cc)
found test a (suc n) k e =
    elim (cases_Bool (test a)) [
      | inl u ↦
          let f = rw u at e in
          let same : a ≡ k = cc in
          record { low = omega (arith, same); high = omega (arith, same); passes = ap test (sym same) ∙ u }
      | inr n' ↦
          let r = found test (a + 1) n k (rw n' at e) in
          record { low = (let l = r.low in omega (arith, l)); high = (let l = r.high in omega (arith, l)); passes = r.passes }
    ]

-- where none is found none passes
pub none_passes : (test : ℕ → Bool) (a n : ℕ) → find test (range_with_len a n) ≡ None → (c : ℕ) → a ≤ c → c < a + n → test c ≡ false
none_passes test a zero e c low high = absurd (omega arith)
none_passes test a (suc n) e c low high =
    elim (cases_Bool (test a)) [
      | inl u ↦ (let f = rw u at e in absurd (cc))
      | inr n' ↦ elim (cases_eq c a) [
        | inl same ↦ ap test same ∙ n'
        | inr other ↦ none_passes test (a + 1) n (rw n' at e) c (omega arith) (omega arith)
      ]
    ]
