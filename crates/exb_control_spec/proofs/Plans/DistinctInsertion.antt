-- Elements that are put one after another, each where it isn't empty and isn't there yet.
use Rattle.std.proofs.Common.{◌≡◌, ◌&&◌, ◌||◌, Bool, true, false, not, cond, List, [], ◌∷◌, ◌++◌, filter, fold, refl, sym, ◌∙◌, ap}
use Rattle.std.specs.List.{list_any}
use Rattle.std.proofs.lemmas.Bool.{or_from, or_left, or_right, false≢true}
use Rattle.std.proofs.lemmas.List.{append-nil}
use Rattle.std.proofs.lemmas.List.Elements.{filter-append}
use Rattle.exb_control_spec.proofs.Plans.DistinctLists.{put, any-append}
use Rattle.exb_control_spec.proofs.Plans.Bools.{and_false}

module _ {X : Type 0} (empty : X → Bool) (same : X → X → Bool) (to : (x y : X) → same x y ≡ true → x ≡ y) (itself : (x : X) → same x x ≡ true) where
  -- ---- what is there
  there : (s x : X) (sets : List X) → list_any (same x) sets ≡ true → same s x ≡ true → list_any (same s) sets ≡ true
  there s x sets e f = ap (λ y. list_any (same y) sets) (to s x f) ∙ e

  put_has : (sets : List X) (s x : X) → list_any (same s) (put empty same sets x) ≡ (list_any (same s) sets || (not (empty s) && same s x))
  put_has sets s x = by_test (empty x) (list_any (same x) sets) (same s x) refl refl refl
    where
      or_false : (b : Bool) → (b || false) ≡ b
      or_false true = refl
      or_false false = refl

      or_true : (b c : Bool) → b ≡ true → b ≡ (b || c)
      or_true b c e = rw e refl

      by_test : (e a f : Bool) → empty x ≡ e → list_any (same x) sets ≡ a → same s x ≡ f →
          list_any (same s) (cond (e || a) sets (sets ++ x ∷ [])) ≡ (list_any (same s) sets || (not (empty s) && f))
      by_test true a true p q r = rw (ap empty (to s x r) ∙ p) (sym (or_false (list_any (same s) sets)))
      by_test true a false p q r = rw (and_false (not (empty s))) (sym (or_false (list_any (same s) sets)))
      by_test false true true p q r = or_true (list_any (same s) sets) (not (empty s) && true) (there s x sets q r)
      by_test false true false p q r = rw (and_false (not (empty s))) (sym (or_false (list_any (same s) sets)))
      by_test false false true p q r = any-append (same s) sets (x ∷ []) ∙ rw (r, ap empty (to s x r) ∙ p) refl
      by_test false false false p q r = any-append (same s) sets (x ∷ []) ∙ rw (r, and_false (not (empty s))) refl

  -- what isn't empty is there where it was there, or is put
  pub fold_has : (xs sets : List X) (s : X) → list_any (same s) (fold (put empty same) sets xs) ≡ (list_any (same s) sets || (not (empty s) && list_any (same s) xs))
  fold_has [] sets s = none (list_any (same s) sets) (not (empty s))
    where
      none : (b c : Bool) → b ≡ (b || (c && false))
      none true c = refl
      none false true = refl
      none false false = refl
  fold_has (x ∷ xs) sets s =
      fold_has xs (put empty same sets x) s
      ∙ (ap (λ b. b || (not (empty s) && list_any (same s) xs)) (put_has sets s x)
      ∙ moved (list_any (same s) sets) (not (empty s)) (same s x) (list_any (same s) xs))
    where
      moved : (a c f g : Bool) → ((a || (c && f)) || (c && g)) ≡ (a || (c && (f || g)))
      moved true c f g = refl
      moved false true f g = refl
      moved false false f g = refl

  -- ---- a test that says the same of the same
  module _ (test : X → Bool) where
    pub kept_has : (x : X) → test x ≡ true → (sets : List X) → list_any (same x) (filter test sets) ≡ list_any (same x) sets
    kept_has x e [] = refl
    kept_has x e (y ∷ ys) = by_test (kept_has x e ys) (test y) (same x y) refl refl
      where
        by_test : list_any (same x) (filter test ys) ≡ list_any (same x) ys → (b f : Bool) → test y ≡ b → same x y ≡ f →
            list_any (same x) (cond b (y ∷ filter test ys) (filter test ys)) ≡ (f || list_any (same x) ys)
        by_test rest true f p q = rw q (ap (λ a. f || a) rest)
        by_test rest false true p q = absurd (false≢true (sym p ∙ (ap test (sym (to x y q)) ∙ e)))
        by_test rest false false p q = rest

    filter-put : (sets : List X) (x : X) → filter test (put empty same sets x) ≡ cond (test x) (put empty same (filter test sets) x) (filter test sets)
    filter-put sets x = by_test (test x) (empty x) (list_any (same x) sets) refl refl refl
      where
        by_test : (b e a : Bool) → test x ≡ b → empty x ≡ e → list_any (same x) sets ≡ a →
            filter test (cond (e || a) sets (sets ++ x ∷ [])) ≡ cond b (cond (e || list_any (same x) (filter test sets)) (filter test sets) (filter test sets ++ x ∷ [])) (filter test sets)
        by_test true true a p q r = refl
        by_test true false true p q r = rw (kept_has x p sets ∙ r) refl
        by_test true false false p q r = rw (kept_has x p sets ∙ r) (filter-append test sets (x ∷ []) ∙ ap (λ b. filter test sets ++ cond b (x ∷ []) []) p)
        by_test false true a p q r = refl
        by_test false false true p q r = refl
        by_test false false false p q r = filter-append test sets (x ∷ []) ∙ (ap (λ b. filter test sets ++ cond b (x ∷ []) []) p ∙ append-nil (filter test sets))

    -- of what was put, those that pass, as if only what passes had been put
    pub filter-fold : (xs sets : List X) → filter test (fold (put empty same) sets xs) ≡ fold (put empty same) (filter test sets) (filter test xs)
    filter-fold [] sets = refl
    filter-fold (x ∷ xs) sets =
        filter-fold xs (put empty same sets x)
        ∙ (ap (λ l. fold (put empty same) l (filter test xs)) (filter-put sets x) ∙ by_test (test x))
      where
        by_test : (b : Bool) → fold (put empty same) (cond b (put empty same (filter test sets) x) (filter test sets)) (filter test xs)
            ≡ fold (put empty same) (filter test sets) (cond b (x ∷ filter test xs) (filter test xs))
        by_test true = refl
        by_test false = refl

  -- what is empty makes no difference
  pub some-fold : (xs sets : List X) → fold (put empty same) sets (filter (λ x. not (empty x)) xs) ≡ fold (put empty same) sets xs
  some-fold [] sets = refl
  some-fold (x ∷ xs) sets = by_test (some-fold xs) (empty x) refl
    where
      by_test : ((l : List X) → fold (put empty same) l (filter (λ x. not (empty x)) xs) ≡ fold (put empty same) l xs) → (e : Bool) → empty x ≡ e →
          fold (put empty same) sets (cond (not e) (x ∷ filter (λ x. not (empty x)) xs) (filter (λ x. not (empty x)) xs)) ≡ fold (put empty same) (put empty same sets x) xs
      by_test rest true p = rest sets ∙ rw p refl
      by_test rest false p = rest (put empty same sets x)

  -- what is put is there afterwards, or empty
  pub all_had : (xs ys : List X) → ((s : X) → list_any (same s) ys ≡ true → list_any (same s) xs ≡ true) →
      list_any (λ s. not (list_any (same s) (fold (put empty same) [] xs)) && not (empty s)) ys ≡ false
  all_had xs [] within = refl
  all_had xs (y ∷ ys) within =
      or_from _ _ (
      ap (λ b. not b && not (empty y)) (fold_has xs [] y ∙ ap (λ b. not (empty y) && b) (within y (or_left _ _ (itself y))))
      ∙ last (empty y)) (all_had xs ys (λ s e. within s (or_right _ _ e)))
    where
      last : (e : Bool) → (not (not e && true) && not e) ≡ false
      last true = refl
      last false = refl
