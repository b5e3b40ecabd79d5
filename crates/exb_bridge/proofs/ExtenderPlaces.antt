-- The places of extenders in an order, and that none stands twice in it.
use Rattle.std.proofs.Common.{◌≡◌, ◌≢◌, ℕ, zero, suc, ◌+◌, ◌<◌, ◌≤◌, ◌==◌, ◌||◌, ◌++◌, Bool, true, false, List, [], ◌∷◌, length, set, refl, ap, sym, ◌∙◌, subst, arith, inl, inr, eq-eqb}
use Rattle.std.specs.Prelude.{Some, slice_get, slice_index, replicate}
use Rattle.std.proofs.lemmas.Bool.{cases_eq, cases_Bool, false≢true, false_from_ne_true}
use Rattle.std.proofs.lemmas.List.{get_or-replicate, get_or-set_same, get_or-set_other, length-set}
use Rattle.std.proofs.lemmas.List.Folds.{list_any-append}
use Rattle.std.proofs.lemmas.Option.{slice_get_within}
use Rattle.exb_model.specs.Lists.{is_listed}
use Rattle.exb_model.specs.Tree.{Shape, by_depth, depth, level}
use Rattle.exb_world_spec.specs.Settling.{deepest_first}
use Rattle.exb_control_spec.proofs.Runs.ExtenderOrder.{on_level, distinct_level, distinct_by_depth}
use Rattle.exb_control_spec.proofs.Runs.EqualTables.{AreDistinct}
use Rattle.exb_bridge.specs.TreeIndexes.{ArePlaces, StandsOnce}

-- ---- none stands twice
listed_at : (xs : List ℕ) (k n : ℕ) → slice_get xs k ≡ Some n → is_listed xs n ≡ true
listed_at [] k n e = absurd cc
listed_at (x ∷ xs) zero n e = let is : x ≡ n = cc in rw (is, eq-eqb n n refl) refl
listed_at (x ∷ xs) (suc k) n e = rw (listed_at xs k n e) (right (x == n))
  where
    right : (b : Bool) → (b || true) ≡ true
    right true = refl
    right false = refl

pub once : (xs : List ℕ) → AreDistinct xs → StandsOnce xs
once [] apart j k n first second = absurd cc
once (x ∷ xs) apart zero zero n first second = refl
once (x ∷ xs) apart zero (suc k) n first second =
    let is : x ≡ n = cc in
    absurd (false≢true (sym apart.0 ∙ ap (is_listed xs) is ∙ listed_at xs k n second))
once (x ∷ xs) apart (suc j) zero n first second =
    let is : x ≡ n = cc in
    absurd (false≢true (sym apart.0 ∙ ap (is_listed xs) is ∙ listed_at xs j n first))
once (x ∷ xs) apart (suc j) (suc k) n first second = ap suc (once xs apart.1 j k n first second)

-- nothing of the second is in the first
joined : (xs ys : List ℕ) → AreDistinct xs → AreDistinct ys → ((n : ℕ) → is_listed xs n ≡ true → is_listed ys n ≡ false) → AreDistinct (xs ++ ys)
joined [] ys dx dy h = dy
joined (x ∷ xs) ys dx dy h = (
  list_any-append (λ y. y == x) xs ys ∙ (rw (dx.0, h x (rw (eq-eqb x x refl) refl)) refl),
  joined xs ys dx.1 dy (λ n k. h n (rw k (right (x == n)))),
)
  where
    right : (b : Bool) → (b || true) ≡ true
    right true = refl
    right false = refl

-- those at depth d or above
not_deeper : (t : Shape) (d n : ℕ) → is_listed (deepest_first t d) n ≡ true → depth t n ≤ d
unfolding deepest_first
not_deeper t zero n h = absurd (false≢true h)
not_deeper t (suc d) n h =
    let split : (is_listed (level t (suc d) 64) n || is_listed (deepest_first t d) n) ≡ true = sym (list_any-append (λ x. x == n) (level t (suc d) 64) (deepest_first t d)) ∙ h in
    elim (cases_Bool (is_listed (level t (suc d) 64) n)) [
      | inl e ↦ let o = (on_level t (suc d) 64 n e).deep in omega (arith, o)
      | inr e ↦ let rest : is_listed (deepest_first t d) n ≡ true = rw e at split in let o = not_deeper t d n rest in omega (arith, o)
    ]

distinct_deepest : (t : Shape) (d : ℕ) → AreDistinct (deepest_first t d)
unfolding deepest_first
distinct_deepest t zero = tt
distinct_deepest t (suc d) =
    joined (level t (suc d) 64) (deepest_first t d) (distinct_level t (suc d) 64) (distinct_deepest t d) (λ n h.
    let deep = (on_level t (suc d) 64 n h).deep in
    false_from_ne_true _ (λ k. let o = not_deeper t d n k in absurd (omega (arith, o, deep))))

pub deepest_once : (t : Shape) → StandsOnce (deepest_first t 64)
deepest_once t = once (deepest_first t 64) (distinct_deepest t 64)

pub depth_once : (t : Shape) → StandsOnce (by_depth t)
depth_once t = once (by_depth t) (distinct_by_depth t)

-- ---- the places of those so far
pub record ArePlaced (order places : List ℕ) (i : ℕ) : Type 0 where
  pub sized : length places ≡ 65
  pub back : (n : ℕ) → n < 65 → slice_index places n < 64 → slice_get order (slice_index places n) ≡ Some n
  pub forth : (k n : ℕ) → k < i → slice_get order k ≡ Some n → slice_index places n ≡ k

pub none_placed : (order : List ℕ) → ArePlaced order (replicate 65 64) 0
none_placed order =
    record {
      sized = refl;
      back = λ n within low. let is : slice_index (replicate 65 64) n ≡ 64 = get_or-replicate 65 n 64 0 within in absurd (omega (arith, is, low));
      forth = λ k n low. absurd (omega (arith, low));
    }

module _ (order places : List ℕ) (i m : ℕ) (low : i < 64) (few : m < 65) (at : slice_get order i ≡ Some m) (alone : StandsOnce order) (placed : ArePlaced order places i) where
  pub one_placed : ArePlaced order (set places m i) (i + 1)
  one_placed = record { sized = length-set places m i ∙ placed.sized; back = λ n. back n; forth = λ k n. forth k n }
    where
      here : slice_index (set places m i) m ≡ i
      here = get_or-set_same places m i 0 (let long = placed.sized in omega (arith, few, long))

      other : (n : ℕ) → n ≢ m → slice_index (set places m i) n ≡ slice_index places n
      other n ne = get_or-set_other places m n i 0 ne

      back : (n : ℕ) → n < 65 → slice_index (set places m i) n < 64 → slice_get order (slice_index (set places m i) n) ≡ Some n
      back n within under =
          elim (cases_eq n m) [
            | inl e ↦ rw (e, here) at
            | inr ne ↦ rw (other n ne) (placed.back n within (subst (λ (k : ℕ). k < 64) (other n ne) under))
          ]

      forth : (k n : ℕ) → k < i + 1 → slice_get order k ≡ Some n → slice_index (set places m i) n ≡ k
      forth k n below is =
          elim (cases_eq n m) [
            | inl e ↦
                let same : i ≡ k = alone i k m at (is ∙ ap Some e) in
                rw e (here ∙ same)
            | inr ne ↦
                elim (cases_eq k i) [
                  | inl f ↦ absurd (ne (same_some n m (sym is ∙ (ap (slice_get order) f ∙ at))))
                  | inr nf ↦ other n ne ∙ placed.forth k n (omega (arith, below, nf)) is
                ]
          ]
        where
          same_some : (a b : ℕ) → Some a ≡ Some b → a ≡ b
          same_some a b e = cc

-- all are placed
pub all_placed : (order places : List ℕ) (i : ℕ) → length order ≤ i → ArePlaced order places i → ArePlaces order places
all_placed order places i all placed = record { back = placed.back; forth = λ k n is. placed.forth k n (within order k n is all) is }
  where
    within : (xs : List ℕ) (k n : ℕ) → slice_get xs k ≡ Some n → length xs ≤ i → k < i
    within xs k n is few = let l = slice_get_within xs k n is in omega (arith, l, few)
