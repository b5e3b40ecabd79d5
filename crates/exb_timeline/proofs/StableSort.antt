-- Sorting by a key, of which what is equal stays in its order: the sort of two lists, one behind the other, is the merge of their sorts.
use Rattle.std.proofs.Common.{◌≡◌, ℕ, suc, ◌<◌, ◌≤◌, Bool, true, false, cond, List, [], ◌∷◌, ◌++◌, refl, sym, ap, ◌∙◌, arith, inl, inr}
use Rattle.std.specs.Prelude.{◌≢◌, nat_lt}
use Rattle.std.specs.List.{AllByRecursion}
use Rattle.std.proofs.lemmas.Bool.{cases_lt, lt-ltb, le-ltb}

module _ {X : Type 0} (key : X → ℕ) where
  -- before the first that doesn't come before it
  abbrev pub put : X → List X → List X
  put x [] = x ∷ []
  put x (y ∷ ys) = cond (nat_lt (key y) (key x)) (y ∷ put x ys) (x ∷ y ∷ ys)

  -- so all of these, the last one first: a merge, where both are sorted
  abbrev pub puts : List X → List X → List X
  puts [] zs = zs
  puts (x ∷ xs) zs = put x (puts xs zs)

  abbrev pub sort : List X → List X
  sort xs = puts xs []

  abbrev pub AreFrom : ℕ → List X → Type 0
  AreFrom m = AllByRecursion (λ x. m ≤ key x)

  -- ---- what comes first
  pub from_put : (m : ℕ) (x : X) (ys : List X) → m ≤ key x → AreFrom m ys → AreFrom m (put x ys)
  from_put m x [] low all = (low, tt)
  from_put m x (y ∷ ys) low all = by_test (from_put m x ys low all.1) (nat_lt (key y) (key x))
    where
      by_test : AreFrom m (put x ys) → (b : Bool) → AreFrom m (cond b (y ∷ put x ys) (x ∷ y ∷ ys))
      by_test rest true = (all.0, rest)
      by_test rest false = (low, all)

  pub from_puts : (m : ℕ) (xs zs : List X) → AreFrom m xs → AreFrom m zs → AreFrom m (puts xs zs)
  from_puts m [] zs all also = also
  from_puts m (x ∷ xs) zs all also = from_put m x (puts xs zs) all.0 (from_puts m xs zs all.1 also)

  pub put_first : (x : X) (ys : List X) → AreFrom (key x) ys → put x ys ≡ x ∷ ys
  put_first x [] all = refl
  put_first x (y ∷ ys) all = rw (le-ltb (key y) (key x) all.0) refl

  -- one comes first that none behind it comes before, and all before it come after it
  pub sort_first : (before : List X) (x : X) (rest : List X) → AreFrom (suc (key x)) before → AreFrom (key x) rest → sort (before ++ x ∷ rest) ≡ x ∷ sort (before ++ rest)
  sort_first [] x rest later all = put_first x (sort rest) (from_puts (key x) rest [] all tt)
  sort_first (b ∷ bs) x rest later all =
      let first : key x < key b = omega (arith, later.0) in
      ap (put b) (sort_first bs x rest later.1 all) ∙ rw (lt-ltb (key x) (key b) first) refl

  -- ---- in another order
  put_low : (x y : X) (zs : List X) → key y < key x → put x (y ∷ zs) ≡ y ∷ put x zs
  put_low x y zs less = rw (lt-ltb (key y) (key x) less) refl

  put_high : (x y : X) (zs : List X) → key x ≤ key y → put x (y ∷ zs) ≡ x ∷ y ∷ zs
  put_high x y zs low = rw (le-ltb (key y) (key x) low) refl

  put_less : (x y : X) (zs : List X) → key y < key x → put y (put x zs) ≡ put x (put y zs)
  put_less x y [] less = put_high y x [] (omega (arith, less)) ∙ sym (put_low x y [] less)
  put_less x y (z ∷ zs) less =
      elim (cases_lt (key z) (key y)) [
        | inl first ↦
            ap (put y) (put_low x z zs (omega (arith, less, first))) ∙ put_low y z (put x zs) first ∙ ap (λ us. z ∷ us) (put_less x y zs less)
            ∙ sym (ap (put x) (put_low y z zs first) ∙ put_low x z (put y zs) (omega (arith, less, first)))
        | inr behind ↦
            elim (cases_lt (key z) (key x)) [
              | inl first ↦
                  ap (put y) (put_low x z zs first) ∙ put_high y z (put x zs) behind
                  ∙ sym (ap (put x) (put_high y z zs behind) ∙ put_low x y (z ∷ zs) less ∙ ap (λ us. y ∷ us) (put_low x z zs first))
              | inr last ↦
                  ap (put y) (put_high x z zs last) ∙ put_high y x (z ∷ zs) (omega (arith, less))
                  ∙ sym (ap (put x) (put_high y z zs behind) ∙ put_low x y (z ∷ zs) less ∙ ap (λ us. y ∷ us) (put_high x z zs last))
            ]
      ]

  -- two with other keys
  pub put_other : (x y : X) (zs : List X) → key x ≢ key y → put x (put y zs) ≡ put y (put x zs)
  put_other x y zs other =
      elim (cases_lt (key y) (key x)) [
        | inl less ↦ sym (put_less x y zs less)
        | inr low ↦ put_less y x zs (omega (arith, low, other))
      ]

  pub puts_put : (x : X) (xs zs : List X) → puts (put x xs) zs ≡ put x (puts xs zs)
  puts_put x [] zs = refl
  puts_put x (y ∷ ys) zs =
      elim (cases_lt (key y) (key x)) [
        | inl less ↦ ap (λ us. puts us zs) (put_low x y ys less) ∙ ap (put y) (puts_put x ys zs) ∙ put_less x y (puts ys zs) less
        | inr low ↦ ap (λ us. puts us zs) (put_high x y ys low)
      ]

  -- what is sorted already is put as it would be in any case
  pub puts_sort : (xs zs : List X) → puts (sort xs) zs ≡ puts xs zs
  puts_sort [] zs = refl
  puts_sort (x ∷ xs) zs = puts_put x (sort xs) zs ∙ ap (put x) (puts_sort xs zs)

  pub puts_append : (xs ys zs : List X) → puts (xs ++ ys) zs ≡ puts xs (puts ys zs)
  puts_append [] ys zs = refl
  puts_append (x ∷ xs) ys zs = ap (put x) (puts_append xs ys zs)

  -- The sort of both is the merge of the sorts of each.
  pub sort_both : (xs ys : List X) → sort (xs ++ ys) ≡ puts (sort xs) (sort ys)
  sort_both xs ys = puts_append xs ys [] ∙ sym (puts_sort xs (sort ys))

  -- lists of which no key of one is one of the other
  abbrev pub HaveOther : List X → List X → Type 0
  HaveOther xs ys = AllByRecursion (λ x. AllByRecursion (λ y. key x ≢ key y) ys) xs

  put_behind : (x : X) (ys zs : List X) → AllByRecursion (λ y. key x ≢ key y) ys → put x (puts ys zs) ≡ puts ys (put x zs)
  put_behind x [] zs others = refl
  put_behind x (y ∷ ys) zs others = put_other x y (puts ys zs) others.0 ∙ ap (put y) (put_behind x ys zs others.1)

  pub puts_others : (xs ys zs : List X) → HaveOther xs ys → puts xs (puts ys zs) ≡ puts ys (puts xs zs)
  puts_others [] ys zs others = refl
  puts_others (x ∷ xs) ys zs others = ap (put x) (puts_others xs ys zs others.1) ∙ put_behind x ys (puts xs zs) others.0

  -- ---- sorted lists
  abbrev pub IsSorted : List X → Type 0
  IsSorted [] = Unit {0}
  IsSorted (x ∷ xs) = AreFrom (key x) xs × IsSorted xs

  sorted_put : (x : X) (ys : List X) → IsSorted ys → IsSorted (put x ys)
  sorted_put x [] sorted = (tt, tt)
  sorted_put x (y ∷ ys) sorted =
      elim (cases_lt (key y) (key x)) [
        | inl less ↦ rw (lt-ltb (key y) (key x) less) (from_put (key y) x ys (omega (arith, less)) sorted.0, sorted_put x ys sorted.1)
        | inr low ↦ rw (le-ltb (key y) (key x) low) ((low, from_weaker (key x) (key y) ys low sorted.0), sorted)
      ]
    where
      from_weaker : (m k : ℕ) (zs : List X) → m ≤ k → AreFrom k zs → AreFrom m zs
      from_weaker m k [] low all = tt
      from_weaker m k (z ∷ zs) low all = (omega (arith, low, all.0), from_weaker m k zs low all.1)

  pub sort_sorts : (xs : List X) → IsSorted (sort xs)
  sort_sorts [] = tt
  sort_sorts (x ∷ xs) = sorted_put x (sort xs) (sort_sorts xs)
