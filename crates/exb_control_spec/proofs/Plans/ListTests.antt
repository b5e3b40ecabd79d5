-- Tests of lists: whether one element passes, how many do.
use Rattle.std.proofs.Common.{◌≡◌, ℕ, ◌+◌, ◌||◌, ◌&&◌, Bool, true, false, cond, List, [], ◌∷◌, ◌++◌, filter, refl, sym, ◌∙◌, ap, arith, inl, inr}
use Rattle.std.specs.Prelude.{count_by, nat_lt}
use Rattle.std.specs.List.{list_any, flat_map}
use Rattle.std.proofs.lemmas.Bool.{cases_Bool, or_parts, lt-ltb}
use Rattle.std.proofs.lemmas.List.Sums.{sum_by-cons, sum_by-append}

-- ---- counts
pub count-cons : {X : Type 0} (p : X → Bool) (x : X) (xs : List X) → count_by p (x ∷ xs) ≡ cond (p x) 1 0 + count_by p xs
count-cons p x xs = sum_by-cons (λ y. cond (p y) 1 0) x xs

pub count-append : {X : Type 0} (p : X → Bool) (xs ys : List X) → count_by p (xs ++ ys) ≡ count_by p xs + count_by p ys
count-append p xs ys = sum_by-append (λ y. cond (p y) 1 0) xs ys

-- one passes where at least one is counted
pub any_counts : {X : Type 0} (p : X → Bool) (xs : List X) → list_any p xs ≡ nat_lt 0 (count_by p xs)
any_counts p [] = refl
any_counts p (x ∷ xs) = ap (λ b. p x || b) (any_counts p xs) ∙ (one_more (p x) (count_by p xs) ∙ ap (nat_lt 0) (sym (count-cons p x xs)))
  where
    one_more : (b : Bool) (n : ℕ) → (b || nat_lt 0 n) ≡ nat_lt 0 (cond b 1 0 + n)
    one_more true n = sym (lt-ltb 0 (1 + n) (omega arith))
    one_more false n = ap (nat_lt 0) (omega arith)

-- ---- filters
-- nothing is kept where none passes
pub filter-none : {X : Type 0} (p : X → Bool) (xs : List X) → list_any p xs ≡ false → filter p xs ≡ []
filter-none p [] e = refl
filter-none p (x ∷ xs) e =
    let parts = or_parts (p x) (list_any p xs) e in
    rw parts.0 (filter-none p xs parts.1)

-- of what passes one test, tests that agree there keep the same
pub filter_within : {X : Type 0} (r p q : X → Bool) (xs : List X) → ((x : X) → r x ≡ true → p x ≡ q x) → filter p (filter r xs) ≡ filter q (filter r xs)
filter_within r p q [] same = refl
filter_within r p q (x ∷ xs) same =
    elim (cases_Bool (r x)) [
      | inl e ↦ rw (e, same x e) (ap (λ l. cond (q x) (x ∷ l) l) (filter_within r p q xs same))
      | inr e ↦ rw e (filter_within r p q xs same)
    ]

-- of what passes one test, what passes another
pub filter-both : {X : Type 0} (p r : X → Bool) (xs : List X) → filter p (filter r xs) ≡ filter (λ x. r x && p x) xs
filter-both p r [] = refl
filter-both p r (x ∷ xs) =
    elim (cases_Bool (r x)) [
      | inl e ↦ rw e (ap (λ l. cond (p x) (x ∷ l) l) (filter-both p r xs))
      | inr e ↦ rw e (filter-both p r xs)
    ]

-- ---- images
pub flat_map-same : {X Y : Type 0} (f g : X → List Y) (xs : List X) → ((x : X) → f x ≡ g x) → flat_map f xs ≡ flat_map g xs
flat_map-same f g [] same = refl
flat_map-same f g (x ∷ xs) same = ap (λ l. l ++ flat_map f xs) (same x) ∙ ap (λ l. g x ++ l) (flat_map-same f g xs same)
