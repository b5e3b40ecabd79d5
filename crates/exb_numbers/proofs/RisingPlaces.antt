-- Places in the rising order of their words.
use Rattle.std.proofs.Common.{◌≡◌, ℕ, ◌+◌, ◌-◌, ◌<◌, ◌≤◌, List, length, get_or, insert, remove, refl, sym, ap, subst, ◌∙◌, inl, inr, arith}
use Rattle.std.specs.Prelude.{Result, Ok, Err, MatchResult}
use Rattle.std.specs.Ordering.{ordering_index, ordering_reverse}
use Rattle.std.specs.declared.cmp.Ordering.{Ordering}
use Rattle.std.specs.declared.cmp.Ordering.TheVariants.{Less, Equal, Greater}
use Rattle.std.specs.List.Sorted.{IsBinarySearchResult, IsSearchInRange, IsNonDecreasingBy}
use Rattle.std.proofs.lemmas.Cmp.{nat_list_cmp_total}
use Rattle.std.proofs.lemmas.Map.Lookups.{exact_bytes}
use Rattle.std.proofs.lemmas.Bool.{cases_lt, cases_eq}
use Rattle.std.proofs.lemmas.List.Edits.{length-insert, length-remove, get_or-insert_at, get_or-insert_below, get_or-insert_above, get_or-remove_below, get_or-remove_above}
use Rattle.std.proofs.lemmas.Grind.{get_or_default_zero}
use Rattle.exb_numbers.specs.GroupOrder.{compared, IsRising, SplitsAt, IsAt, StandsAt}

not_less : Equal ≡ Less → ⊥
not_less h = let e : ordering_index Equal ≡ ordering_index Less = ap ordering_index h in omega (arith, e)

not_greater : Equal ≡ Greater → ⊥
not_greater h = let e : ordering_index Equal ≡ ordering_index Greater = ap ordering_index h in omega (arith, e)

pub same_words : (a : List ℕ) → compared a a ≡ Equal
same_words a = by_order (compared a a) (nat_list_cmp_total.antisymm a a)
  where
    by_order : (o : Ordering) → o ≡ ordering_reverse o → o ≡ Equal
    by_order Equal h = refl
    by_order Less h = absurd (let e : ordering_index Less ≡ ordering_index Greater = ap ordering_index h in omega (arith, e))
    by_order Greater h = absurd (let e : ordering_index Greater ≡ ordering_index Less = ap ordering_index h in omega (arith, e))

greater_than : (a b : List ℕ) → compared a b ≡ Greater → compared b a ≡ Less
greater_than a b h = nat_list_cmp_total.antisymm b a ∙ ap ordering_reverse h

-- ---- what a binary search finds
rises : (w x y : List ℕ) → compared x y ≡ Less → ordering_index (compared x w) ≤ ordering_index (compared y w)
rises w x y below = by_orders (compared y w) refl
  where
    by_orders : (q : Ordering) → compared y w ≡ q → ordering_index (compared x w) ≤ ordering_index q
    by_orders Less h = let e : ordering_index (compared x w) ≡ 0 = ap ordering_index (nat_list_cmp_total.trans x y w below h) in omega arith
    by_orders Equal h =
        let same : y ≡ w = exact_bytes y w h in
        let e : ordering_index (compared x w) ≡ 0 = ap ordering_index (ap (compared x) (sym same) ∙ below) in omega arith
    by_orders Greater h = at_most (compared x w)
      where
        at_most : (p : Ordering) → ordering_index p ≤ 2
        at_most Less = omega arith
        at_most Equal = omega arith
        at_most Greater = omega arith

module _ (words : ℕ → List ℕ) (order : List ℕ) where
  in_order : (w : List ℕ) → IsRising words order → IsNonDecreasingBy (λ n. ordering_index (compared (words n) w)) order
  in_order w rising i j d low high =
      elim (cases_eq i j) [
        | inl e ↦ let same : ordering_index (compared (words (get_or order i d)) w) ≡ ordering_index (compared (words (get_or order j d)) w) = ap (λ (k : ℕ). ordering_index (compared (words (get_or order k d)) w)) e in omega arith
        | inr e ↦
            let below = rising i j (omega arith) high in
            rw (get_or_default_zero order i d (omega arith), get_or_default_zero order j d high) (rises w (words (get_or order i 0)) (words (get_or order j 0)) below)
      ]

  pub found : (w : List ℕ) → IsRising words order → (r : Result ℕ ℕ) → IsSearchInRange r (length order) → IsBinarySearchResult (λ n. compared (words n) w) order r →
      MatchResult r (IsAt words order w) (SplitsAt words order w)
  found w rising (Ok i) range so = record { within = range; same = exact_bytes (words (get_or order i 0)) w (so 0) }
  found w rising (Err i) range so =
      let parts = so (in_order w rising) in
      record { within = range; before = λ k h. parts.0 k 0 (omega arith) h; after = λ k l h. parts.1 k 0 l h }

  -- places with the same words stand at one index
  pub one_index : IsRising words order → (i j : ℕ) → i < length order → j < length order → words (get_or order i 0) ≡ words (get_or order j 0) → i ≡ j
  one_index rising i j low high same =
      elim (cases_lt i j) [
        | inl l ↦ absurd (not_less (sym (same_words (words (get_or order i 0))) ∙ ap (compared (words (get_or order i 0))) same ∙ rising i j l high))
        | inr l ↦ elim (cases_lt j i) [
          | inl g ↦ absurd (not_less (sym (same_words (words (get_or order j 0))) ∙ ap (compared (words (get_or order j 0))) (sym same) ∙ rising j i g low))
          | inr g ↦ omega arith
        ]
      ]

  -- where the words split the order, no place has them
  pub split_absent : (w : List ℕ) (i k : ℕ) → SplitsAt words order w i → k < length order → words (get_or order k 0) ≡ w → ⊥
  split_absent w i k s within same =
      let equal : Equal ≡ compared (words (get_or order k 0)) w = sym (ap (λ a. compared a w) same ∙ same_words w) in
      elim (cases_lt k i) [
        | inl l ↦ not_less (equal ∙ s.before k l)
        | inr l ↦ not_greater (equal ∙ s.after k l within)
      ]

-- ---- an order with a place more
pub insert_rising : (words new : ℕ → List ℕ) (order w : List ℕ) (i n : ℕ) → IsRising words order → SplitsAt words order w i → new n ≡ w →
    ((k : ℕ) → k < length order → new (get_or order k 0) ≡ words (get_or order k 0)) → IsRising new (insert order i n)
insert_rising words new order w i n rising s is same a b low high =
    let size : length (insert order i n) ≡ length order + 1 = length-insert order i n s.within in
    elim (cases_lt b i) [
      | inl b_below ↦ rw (below a (omega arith), below b b_below) (rising a b low (let h = s.within in omega arith))
      | inr b_from ↦ elim (cases_eq b i) [
        | inl b_at ↦ rw (below a (omega arith), at b b_at) (s.before a (omega arith))
        | inr b_above ↦ elim (cases_lt a i) [
          | inl a_below ↦ rw (below a a_below, above b (omega arith) (omega arith)) (rising a (b - 1) (omega arith) (omega arith))
          | inr a_from ↦ elim (cases_eq a i) [
            | inl a_at ↦ rw (at a a_at, above b (omega arith) (omega arith)) (greater_than (words (get_or order (b - 1) 0)) w (s.after (b - 1) (omega arith) (omega arith)))
            | inr a_above ↦ rw (above a (omega arith) (omega arith), above b (omega arith) (omega arith)) (rising (a - 1) (b - 1) (omega arith) (omega arith))
          ]
        ]
      ]
    ]
  where
    below : (k : ℕ) → k < i → new (get_or (insert order i n) k 0) ≡ words (get_or order k 0)
    below k h = ap new (get_or-insert_below order i n 0 k h s.within) ∙ same k (let l = s.within in omega arith)

    at : (k : ℕ) → k ≡ i → new (get_or (insert order i n) k 0) ≡ w
    at k e = ap (λ (j : ℕ). new (get_or (insert order i n) j 0)) e ∙ ap new (get_or-insert_at order i n 0 s.within) ∙ is

    above : (k : ℕ) → i < k → k < length order + 1 → new (get_or (insert order i n) k 0) ≡ words (get_or order (k - 1) 0)
    above k l h =
        let next : k ≡ k - 1 + 1 = omega arith in
        ap (λ (j : ℕ). new (get_or (insert order i n) j 0)) next ∙ ap new (get_or-insert_above order i n 0 (k - 1) (omega arith) s.within) ∙ same (k - 1) (omega arith)

pub remove_rising : (words new : ℕ → List ℕ) (order : List ℕ) (i : ℕ) → IsRising words order → i < length order →
    ((k : ℕ) → k < length order → (k ≡ i → ⊥) → new (get_or order k 0) ≡ words (get_or order k 0)) → IsRising new (remove order i)
remove_rising words new order i rising within same a b low high =
    let size : length (remove order i) + 1 ≡ length order = length-remove order i within in
    elim (cases_lt b i) [
      | inl b_below ↦ rw (below a (omega arith), below b b_below) (rising a b low (omega arith))
      | inr b_from ↦ elim (cases_lt a i) [
        | inl a_below ↦ rw (below a a_below, above b b_from (omega arith)) (rising a (b + 1) (omega arith) (omega arith))
        | inr a_from ↦ rw (above a a_from (omega arith), above b b_from (omega arith)) (rising (a + 1) (b + 1) (omega arith) (omega arith))
      ]
    ]
  where
    below : (k : ℕ) → k < i → new (get_or (remove order i) k 0) ≡ words (get_or order k 0)
    below k h = ap new (get_or-remove_below order i 0 k h within) ∙ same k (omega arith) (λ e. omega arith)

    above : (k : ℕ) → i ≤ k → k + 1 < length order → new (get_or (remove order i) k 0) ≡ words (get_or order (k + 1) 0)
    above k l h = ap new (get_or-remove_above order i 0 k l within) ∙ same (k + 1) h (λ e. omega arith)

-- ---- where a place stands afterwards
pub stands_in_insert : (order : List ℕ) (i n m : ℕ) → i ≤ length order → StandsAt order m → StandsAt (insert order i n) m
stands_in_insert order i n m within s =
    let size : length (insert order i n) ≡ length order + 1 = length-insert order i n within in
    let at = s.within in
    elim (cases_lt s.index i) [
      | inl l ↦ record { index = s.index; within = omega arith; is = get_or-insert_below order i n 0 s.index l within ∙ s.is }
      | inr l ↦ record { index = s.index + 1; within = omega arith; is = get_or-insert_above order i n 0 s.index l within ∙ s.is }
    ]

pub stands_new : (order : List ℕ) (i n : ℕ) → i ≤ length order → StandsAt (insert order i n) n
stands_new order i n within =
    let size : length (insert order i n) ≡ length order + 1 = length-insert order i n within in
    record { index = i; within = omega arith; is = get_or-insert_at order i n 0 within }

pub stands_in_remove : (order : List ℕ) (i m : ℕ) → i < length order → (get_or order i 0 ≡ m → ⊥) → StandsAt order m → StandsAt (remove order i) m
stands_in_remove order i m within other s =
    let size : length (remove order i) + 1 ≡ length order = length-remove order i within in
    let at = s.within in
    let apart : s.index ≡ i → ⊥ = λ e. other (ap (λ (k : ℕ). get_or order k 0) (sym e) ∙ s.is) in
    elim (cases_lt s.index i) [
      | inl l ↦ record { index = s.index; within = omega arith; is = get_or-remove_below order i 0 s.index l within ∙ s.is }
      | inr l ↦
          let next : s.index - 1 + 1 ≡ s.index = omega arith in
          record { index = s.index - 1; within = omega arith; is = get_or-remove_above order i 0 (s.index - 1) (omega arith) within ∙ ap (λ (k : ℕ). get_or order k 0) next ∙ s.is }
    ]

-- what stands in an order with a place more, or one less
pub insert_holds : (P : ℕ → Type 0) (order : List ℕ) (i n : ℕ) → i ≤ length order → P n → ((k : ℕ) → k < length order → P (get_or order k 0)) →
    (k : ℕ) → k < length (insert order i n) → P (get_or (insert order i n) k 0)
insert_holds P order i n within new old k high =
    let size : length (insert order i n) ≡ length order + 1 = length-insert order i n within in
    elim (cases_lt k i) [
      | inl l ↦ subst P (sym (get_or-insert_below order i n 0 k l within)) (old k (omega arith))
      | inr l ↦ elim (cases_eq k i) [
        | inl e ↦ subst P (sym (ap (λ (j : ℕ). get_or (insert order i n) j 0) e ∙ get_or-insert_at order i n 0 within)) new
        | inr e ↦
            let next : k ≡ k - 1 + 1 = omega arith in
            subst P (sym (ap (λ (j : ℕ). get_or (insert order i n) j 0) next ∙ get_or-insert_above order i n 0 (k - 1) (omega arith) within)) (old (k - 1) (omega arith))
      ]
    ]

pub remove_holds : (P : ℕ → Type 0) (order : List ℕ) (i : ℕ) → i < length order → ((k : ℕ) → k < length order → (k ≡ i → ⊥) → P (get_or order k 0)) →
    (k : ℕ) → k < length (remove order i) → P (get_or (remove order i) k 0)
remove_holds P order i within old k high =
    let size : length (remove order i) + 1 ≡ length order = length-remove order i within in
    elim (cases_lt k i) [
      | inl l ↦ subst P (sym (get_or-remove_below order i 0 k l within)) (old k (omega arith) (λ e. omega arith))
      | inr l ↦ subst P (sym (get_or-remove_above order i 0 k l within)) (old (k + 1) (omega arith) (λ e. omega arith))
    ]
