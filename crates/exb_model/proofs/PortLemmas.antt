-- Tests over the numbers below n.
use Rattle.std.proofs.Common.{◌≡◌, ℕ, zero, suc, ◌+◌, ◌<◌, ◌≤◌, Bool, true, false, cond, filter, ◌==◌, eq-eqb, List, [], ◌∷◌, ◌++◌, add-zero, zero-add, add-one, refl, sym, ap, ◌∙◌, arith, inl, inr}
use Rattle.std.specs.List.{list_any, range_with_len}
use Rattle.std.proofs.lemmas.Bool.{cases_eq, or_left, or_right, or_from, ne_eqb}
use Rattle.exb_model.specs.Ports.{below}

any_range-true : (p : ℕ → Bool) (a n k : ℕ) → a ≤ k → k < a + n → p k ≡ true → list_any p (range_with_len a n) ≡ true
any_range-true p a zero k low high is = absurd (omega arith)
any_range-true p a (suc n) k low high is =
    elim (cases_eq k a) [
      | inl e ↦ or_left (p a) _ (ap p (sym e) ∙ is)
      | inr other ↦ or_right (p a) _ (any_range-true p (a + 1) n k (omega arith) (omega arith) is)
    ]

any_range-false : (p : ℕ → Bool) (a n : ℕ) → ((k : ℕ) → a ≤ k → k < a + n → p k ≡ false) → list_any p (range_with_len a n) ≡ false
any_range-false p a zero none = refl
any_range-false p a (suc n) none =
    or_from (p a) _ (none a (omega arith) (omega arith)) (any_range-false p (a + 1) n (λ k low high. none k (omega arith) (omega arith)))

pub any_below-true : (p : ℕ → Bool) (n k : ℕ) → k < n → p k ≡ true → list_any p (below n) ≡ true
unfolding below
any_below-true p n k h is = any_range-true p 0 n k (omega arith) (omega arith) is

pub any_below-false : (p : ℕ → Bool) (n : ℕ) → ((k : ℕ) → k < n → p k ≡ false) → list_any p (below n) ≡ false
unfolding below
any_below-false p n none = any_range-false p 0 n (λ k low high. none k (omega arith))

filter_range-agree : (p r : ℕ → Bool) (a n : ℕ) → ((k : ℕ) → a ≤ k → k < a + n → p k ≡ r k) → filter p (range_with_len a n) ≡ filter r (range_with_len a n)
filter_range-agree p r a zero same = refl
filter_range-agree p r a (suc n) same =
    let rest = filter_range-agree p r (a + 1) n (λ k low high. same k (omega arith) (omega arith)) in
    ap (λ b. cond b (a ∷ filter p (range_with_len (a + 1) n)) (filter p (range_with_len (a + 1) n))) (same a (omega arith) (omega arith))
    ∙ ap (λ xs. cond (r a) (a ∷ xs) xs) rest

-- tests that agree below n keep the same numbers
pub filter_below-agree : (p r : ℕ → Bool) (n : ℕ) → ((k : ℕ) → k < n → p k ≡ r k) → filter p (below n) ≡ filter r (below n)
unfolding below
filter_below-agree p r n same = filter_range-agree p r 0 n (λ k low high. same k (omega arith))

-- a number below a is in no filter of a range from a on
none-filter_range : (p : ℕ → Bool) (a n k : ℕ) → k < a → list_any (λ x. x == k) (filter p (range_with_len a n)) ≡ false
none-filter_range p a zero k low = refl
none-filter_range p a (suc n) k low = by_test (none-filter_range p (a + 1) n k (omega arith)) (p a)
  where
    by_test : list_any (λ x. x == k) (filter p (range_with_len (a + 1) n)) ≡ false → (b : Bool) →
        list_any (λ x. x == k) (cond b (a ∷ filter p (range_with_len (a + 1) n)) (filter p (range_with_len (a + 1) n))) ≡ false
    by_test rest true = or_from (a == k) _ (ne_eqb a k (omega arith)) rest
    by_test rest false = rest

has-filter_range : (p : ℕ → Bool) (a n k : ℕ) → a ≤ k → k < a + n → list_any (λ x. x == k) (filter p (range_with_len a n)) ≡ p k
has-filter_range p a zero k low high = absurd (omega arith)
has-filter_range p a (suc n) k low high =
    elim (cases_eq a k) [
      | inl is ↦ here is (p a) refl
      | inr other ↦ there other (has-filter_range p (a + 1) n k (omega arith) (omega arith)) (p a)
    ]
  where
    here : a ≡ k → (b : Bool) → p a ≡ b → list_any (λ x. x == k) (cond b (a ∷ filter p (range_with_len (a + 1) n)) (filter p (range_with_len (a + 1) n))) ≡ p k
    here is true e = or_left (a == k) _ (eq-eqb a k is) ∙ sym e ∙ ap p is
    here is false e = none-filter_range p (a + 1) n k (omega arith) ∙ sym e ∙ ap p is

    there : (a ≡ k → ⊥) → list_any (λ x. x == k) (filter p (range_with_len (a + 1) n)) ≡ p k → (b : Bool) →
        list_any (λ x. x == k) (cond b (a ∷ filter p (range_with_len (a + 1) n)) (filter p (range_with_len (a + 1) n))) ≡ p k
    there other rest true = rw (ne_eqb a k other) rest
    there other rest false = rest

-- filters that are one come from tests that agree
pub same_filter_below : (p r : ℕ → Bool) (n k : ℕ) → k < n → filter p (below n) ≡ filter r (below n) → p k ≡ r k
unfolding below
same_filter_below p r n k h same =
    sym (has-filter_range p 0 n k (omega arith) (omega arith)) ∙ ap (list_any (λ x. x == k)) same ∙ has-filter_range r 0 n k (omega arith) (omega arith)

pub range-more : (a n : ℕ) → range_with_len a (suc n) ≡ range_with_len a n ++ (a + n) ∷ []
range-more a zero = ap (λ k. k ∷ []) (sym (add-zero a))
range-more a (suc n) = ap (λ xs. a ∷ xs) (range-more (a + 1) n ∙ ap (λ (k : ℕ). range_with_len (a + 1) n ++ k ∷ []) (omega arith))

pub below-more : (n : ℕ) → below (n + 1) ≡ below n ++ n ∷ []
unfolding below
below-more n = rw add-one (range-more 0 n ∙ ap (λ (k : ℕ). range_with_len 0 n ++ k ∷ []) (zero-add n))

none-filter : (p : ℕ → Bool) (xs : List ℕ) → ((k : ℕ) → p k ≡ false) → filter p xs ≡ []
none-filter p [] none = refl
none-filter p (x ∷ xs) none = rw (none x) (none-filter p xs none)

pub filter_below-none : (p : ℕ → Bool) (n : ℕ) → ((k : ℕ) → p k ≡ false) → filter p (below n) ≡ []
filter_below-none p n none = none-filter p (below n) none
