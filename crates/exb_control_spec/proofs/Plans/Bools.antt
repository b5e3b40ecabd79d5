-- Tests, and lists of tests.
use Rattle.std.proofs.Common.{◌≡◌, ℕ, zero, suc, ◌+◌, ◌<◌, ◌≤◌, ◌==◌, ◌&&◌, ◌||◌, cond, Bool, true, false, not, List, [], ◌∷◌, refl, sym, ◌∙◌, ap, arith, inl, inr, eq-eqb}
use Rattle.std.specs.Prelude.{filter}
use Rattle.std.specs.List.{list_any, flat_map, range_with_len}
use Rattle.std.proofs.lemmas.Bool.{cases_eq, ne_eqb, or_cases, or_left, or_right, false≢true}
use Rattle.std.proofs.lemmas.List.Folds.{list_any-append}

pub same_tests : (a b : Bool) → (a ≡ true → b ≡ true) → (b ≡ true → a ≡ true) → a ≡ b
same_tests true b to from = sym (to refl)
same_tests false true to from = from refl
same_tests false false to from = refl

pub and_false : (b : Bool) → (b && false) ≡ false
and_false true = refl
and_false false = refl

pub is_not : (b : Bool) → not b ≡ true → b ≡ false
is_not true e = sym e
is_not false e = refl

pub eq_turned : (a b : ℕ) → (a == b) ≡ (b == a)
eq_turned a b =
    elim (cases_eq a b) [
      | inl e ↦ rw (eq-eqb a b e, eq-eqb b a (sym e)) refl
      | inr e ↦ rw (ne_eqb a b e, ne_eqb b a (λ f. e (sym f))) refl
    ]

pub any_flat : {X Y : Type 0} (p : Y → Bool) (f : X → List Y) (xs : List X) → list_any p (flat_map f xs) ≡ list_any (λ x. list_any p (f x)) xs
any_flat p f [] = refl
any_flat p f (x ∷ xs) = list_any-append p (f x) (flat_map f xs) ∙ ap (λ b. list_any p (f x) || b) (any_flat p f xs)

-- a number of a range that passes two tests
pub record PassesIn (q p : ℕ → Bool) (a n : ℕ) : Type 0 where
  pub at : ℕ
  pub low : a ≤ at
  pub high : at < a + n
  pub kept : q at ≡ true
  pub passes : p at ≡ true

pub any_found : (q p : ℕ → Bool) (a n : ℕ) → list_any p (filter q (range_with_len a n)) ≡ true → PassesIn q p a n
any_found q p a zero e = absurd (false≢true e)
any_found q p a (suc n) e = by_test (q a) refl e (λ f. later (any_found q p (a + 1) n f))
  where
    later : PassesIn q p (a + 1) n → PassesIn q p a (suc n)
    later r = record { at = r.at; low = (let l = r.low in omega (arith, l)); high = (let l = r.high in omega (arith, l)); kept = r.kept; passes = r.passes }

    by_test : (b : Bool) → q a ≡ b → list_any p (cond b (a ∷ filter q (range_with_len (a + 1) n)) (filter q (range_with_len (a + 1) n))) ≡ true →
        (list_any p (filter q (range_with_len (a + 1) n)) ≡ true → PassesIn q p a (suc n)) → PassesIn q p a (suc n)
    by_test true kept e rest = elim (or_cases (p a) (list_any p (filter q (range_with_len (a + 1) n))) e) [
      | inl f ↦ record { at = a; low = omega arith; high = omega arith; kept = kept; passes = f }
      | inr f ↦ rest f
    ]
    by_test false kept e rest = rest e

pub any_there : (q p : ℕ → Bool) (a n k : ℕ) → a ≤ k → k < a + n → q k ≡ true → p k ≡ true → list_any p (filter q (range_with_len a n)) ≡ true
any_there q p a zero k low high kept passes = absurd (omega arith)
any_there q p a (suc n) k low high kept passes =
    elim (cases_eq a k) [
      | inl e ↦ (let here : q a ≡ true = ap q e ∙ kept in rw here (or_left (p a) _ (ap p e ∙ passes)))
      | inr e ↦ by_test (q a) (any_there q p (a + 1) n k (omega arith) (omega arith) kept passes)
    ]
  where
    by_test : (b : Bool) → list_any p (filter q (range_with_len (a + 1) n)) ≡ true → list_any p (cond b (a ∷ filter q (range_with_len (a + 1) n)) (filter q (range_with_len (a + 1) n))) ≡ true
    by_test true rest = or_right (p a) _ rest
    by_test false rest = rest
