-- The first number of a range that passes a test.
use Rattle.std.proofs.Common.{◌≡◌, ℕ, zero, suc, ◌+◌, ◌<◌, ◌≤◌, Bool, true, false, not, refl, ap, ◌∙◌, inl, inr, arith}
use Rattle.std.specs.Prelude.{Some, None, find}
use Rattle.std.specs.List.{range_with_len}
use Rattle.std.proofs.lemmas.Bool.{cases_eq}
use Rattle.exb_model.specs.LowestFree.{lowest_free}

pub find_first : (test : ℕ → Bool) (a n k : ℕ) → a ≤ k → k < a + n → test k ≡ true → ((c : ℕ) → a ≤ c → c < k → test c ≡ false) → find test (range_with_len a n) ≡ Some k
find_first test a zero k low high is before = absurd (omega arith)
find_first test a (suc n) k low high is before =
    elim (cases_eq a k) [
      | inl e ↦ rw (ap test e ∙ is) (ap Some e)
      | inr other ↦ rw (before a (omega arith) (omega arith)) (find_first test (a + 1) n k (omega arith) (omega arith) is (λ c l h. before c (omega arith) h))
    ]

pub find_none : (test : ℕ → Bool) (a n : ℕ) → ((c : ℕ) → a ≤ c → c < a + n → test c ≡ false) → find test (range_with_len a n) ≡ None
find_none test a zero none = refl
find_none test a (suc n) none = rw (none a (omega arith) (omega arith)) (find_none test (a + 1) n (λ c l h. none c (omega arith) (omega arith)))

pub lowest_is : (used : ℕ → Bool) (a n k : ℕ) → a ≤ k → k < a + n → used k ≡ false → ((c : ℕ) → a ≤ c → c < k → used c ≡ true) → lowest_free used a n ≡ Some k
unfolding lowest_free
lowest_is used a n k low high free before = find_first (λ c. not (used c)) a n k low high (ap not free) (λ c l h. ap not (before c l h))

pub lowest_none : (used : ℕ → Bool) (a n : ℕ) → ((c : ℕ) → a ≤ c → c < a + n → used c ≡ true) → lowest_free used a n ≡ None
unfolding lowest_free
lowest_none used a n all = find_none (λ c. not (used c)) a n (λ c l h. ap not (all c l h))
