-- Lists in which nothing stands twice, made by putting what isn't there yet.
use Rattle.std.proofs.Common.{◌≡◌, ◌||◌, ◌++◌, cond, Bool, true, false, not, List, [], ◌∷◌, filter, fold, refl, sym, ◌∙◌, ap, inl, inr}
use Rattle.std.specs.List.{list_any}
use Rattle.std.proofs.lemmas.Bool.{cases_Bool, or_from, false≢true, false_from_ne_true}
use Rattle.std.proofs.lemmas.List.{append-nil, append_assoc}

and_out : (a b : Bool) → (a || b) ≡ false → (a ≡ false) × (b ≡ false)
and_out true b h = absurd (false≢true (sym h))
and_out false b h = (refl, h)

pub any-append : {X : Type 0} (p : X → Bool) (xs ys : List X) → list_any p (xs ++ ys) ≡ (list_any p xs || list_any p ys)
any-append p [] ys = refl
any-append p (x ∷ xs) ys = ap (λ b. p x || b) (any-append p xs ys) ∙ moved (p x) (list_any p xs) (list_any p ys)
  where
    moved : (a b c : Bool) → (a || (b || c)) ≡ (a || b || c)
    moved true b c = refl
    moved false b c = refl

module _ {X : Type 0} (empty : X → Bool) (same : X → X → Bool) where
  -- one more, if it isn't empty and isn't there yet
  abbrev pub put : List X → X → List X
  put sets s = cond (empty s || list_any (same s) sets) sets (sets ++ s ∷ [])

  -- none is empty or stands again behind itself
  abbrev pub AreSets : List X → Type 0
  AreSets [] = Unit {0}
  AreSets (x ∷ xs) = (empty x ≡ false) × (list_any (same x) xs ≡ false) × AreSets xs

  -- those that aren't there
  abbrev pub others : List X → List X → List X
  others sets xs = filter (λ s. not (list_any (same s) sets)) xs

module _ {X : Type 0} (empty : X → Bool) (same : X → X → Bool) (to : (x y : X) → same x y ≡ true → x ≡ y) (itself : (x : X) → same x x ≡ true) where
  apart : (x y : X) → same x y ≡ false → same y x ≡ false
  apart x y h = false_from_ne_true _ (λ e. false≢true (sym h ∙ ap (same x) (to y x e) ∙ itself x))

  one_more : (sets : List X) (s : X) → AreSets empty same sets → empty s ≡ false → list_any (same s) sets ≡ false → AreSets empty same (sets ++ s ∷ [])
  one_more [] s are some new = (some, refl, tt)
  one_more (x ∷ xs) s are some new =
      let parts = and_out (same s x) (list_any (same s) xs) new in (
        are.0,
        any-append (same x) xs (s ∷ []) ∙ or_from _ _ are.1 (or_from (same x s) false (apart s x parts.0) refl),
        one_more xs s are.2 some parts.1,
      )

  pub put_sets : (sets : List X) (s : X) → AreSets empty same sets → AreSets empty same (put empty same sets s)
  put_sets sets s are = by_test (empty s) (list_any (same s) sets) refl refl
    where
      by_test : (e a : Bool) → empty s ≡ e → list_any (same s) sets ≡ a → AreSets empty same (cond (e || a) sets (sets ++ s ∷ []))
      by_test true a p q = are
      by_test false true p q = are
      by_test false false p q = one_more sets s are p q

  pub fold_sets : (xs sets : List X) → AreSets empty same sets → AreSets empty same (fold (put empty same) sets xs)
  fold_sets [] sets are = are
  fold_sets (x ∷ xs) sets are = fold_sets xs (put empty same sets x) (put_sets sets x are)

  none_kept : (p test : X → Bool) (xs : List X) → list_any p xs ≡ false → list_any p (filter test xs) ≡ false
  none_kept p test [] h = h
  none_kept p test (x ∷ xs) h =
      let parts = and_out (p x) (list_any p xs) h in
      elim (cases_Bool (test x)) [
        | inl e ↦ rw e (or_from (p x) _ parts.0 (none_kept p test xs parts.1))
        | inr e ↦ rw e (none_kept p test xs parts.1)
      ]

  pub filter_sets : (test : X → Bool) (xs : List X) → AreSets empty same xs → AreSets empty same (filter test xs)
  filter_sets test [] are = tt
  filter_sets test (x ∷ xs) are =
      elim (cases_Bool (test x)) [
        | inl e ↦ rw e (are.0, none_kept (same x) test xs are.1, filter_sets test xs are.2)
        | inr e ↦ rw e (filter_sets test xs are.2)
      ]

  -- what stands no longer in front of it changes nothing
  others-more : (sets xs : List X) (x : X) → list_any (same x) xs ≡ false → others empty same (sets ++ x ∷ []) xs ≡ others empty same sets xs
  others-more sets [] x h = refl
  others-more sets (y ∷ ys) x h =
      let parts = and_out (same x y) (list_any (same x) ys) h in
      let same_test : list_any (same y) (sets ++ x ∷ []) ≡ list_any (same y) sets =
      any-append (same y) sets (x ∷ []) ∙ (ap (λ b. list_any (same y) sets || (b || false)) (apart x y parts.0) ∙ or_false (list_any (same y) sets)) in
      ap (λ b. cond (not b) (y ∷ others empty same (sets ++ x ∷ []) ys) (others empty same (sets ++ x ∷ []) ys)) same_test
      ∙ ap (λ l. cond (not (list_any (same y) sets)) (y ∷ l) l) (others-more sets ys x parts.1)
    where
      or_false : (b : Bool) → (b || false) ≡ b
      or_false true = refl
      or_false false = refl

  -- putting sets to others adds those that aren't there
  pub fold_put : (xs sets : List X) → AreSets empty same xs → fold (put empty same) sets xs ≡ sets ++ others empty same sets xs
  fold_put [] sets are = sym (append-nil sets)
  fold_put (x ∷ xs) sets are =
      elim (cases_Bool (list_any (same x) sets)) [
        | inl e ↦ rw (are.0, e) (fold_put xs sets are.2)
        | inr e ↦ rw (are.0, e) (
            fold_put xs (sets ++ x ∷ []) are.2
            ∙ (ap (λ l. (sets ++ x ∷ []) ++ l) (others-more sets xs x are.1) ∙ append_assoc sets (x ∷ []) (others empty same sets xs)))
      ]
