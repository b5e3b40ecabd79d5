-- Rising numbers are those of a range that pass a test, and one more is put where it belongs.
use Rattle.std.proofs.Common.{◌≡◌, ℕ, zero, suc, ◌+◌, ◌<◌, ◌≤◌, ◌==◌, ◌||◌, Bool, true, false, List, [], ◌∷◌, length, filter, get_or, insert, refl, sym, ap, subst, ◌∙◌, inl, inr, arith, eq-eqb}
use Rattle.std.specs.Prelude.{Ok, Err}
use Rattle.std.specs.Ordering.{nat_cmp}
use Rattle.std.specs.List.{range_with_len}
use Rattle.std.specs.List.Sorted.{IsBinarySearchResult}
use Rattle.std.proofs.lemmas.List.Sorted.{searched}
use Rattle.std.proofs.lemmas.Bool.{cases_eq, ne_eqb, eqb-true, or_cases, or_left, or_right, false≢true, false_from_ne_true}
use Rattle.exb_plan.specs.RisingNumbers.{is_among, IsRising}

-- ---- the numbers of a range that pass a test
below_none : (x a : ℕ) (xs : List ℕ) → a < x → IsRising (x ∷ xs) → is_among (x ∷ xs) a ≡ false
below_none x a xs low r =
    false_from_ne_true _ (λ h. elim (or_cases (x == a) (is_among xs a) h) [
      | inl e ↦ let same = eqb-true x a e in omega (arith, same, low)
      | inr e ↦ let above = r.0 a e in omega (arith, above, low)
    ])

pub rising_are : (p : ℕ → Bool) (a n : ℕ) (xs : List ℕ) → IsRising xs → ((g : ℕ) → is_among xs g ≡ true → (a ≤ g) × (g < a + n)) →
    ((g : ℕ) → a ≤ g → g < a + n → is_among xs g ≡ p g) → xs ≡ filter p (range_with_len a n)
rising_are p a zero [] r within same = refl
rising_are p a zero (x ∷ xs) r within same =
    let at = within x (or_left (x == x) (is_among xs x) (eq-eqb x x refl)) in
    absurd (omega (arith, at.0, at.1))
rising_are p a (suc n) [] r within same =
    rw (sym (same a (omega arith) (omega arith)))
    (rising_are p (a + 1) n [] tt (λ g h. absurd (false≢true h)) (λ g low high. same g (omega arith) (omega arith)))
rising_are p a (suc n) (x ∷ xs) r within same =
    elim (cases_eq x a) [
      | inl e ↦
          let passes : p a ≡ true = sym (same a (omega arith) (omega arith)) ∙ or_left (x == a) (is_among xs a) (eq-eqb x a e) in
          rw passes (ap (λ (m : ℕ). m ∷ xs) e ∙ ap (λ (l : List ℕ). a ∷ l) (rising_are p (a + 1) n xs r.1
          (λ g h. let above = r.0 g h in let in_range = within g (or_right (x == g) (is_among xs g) h) in (omega (arith, above, e), omega (arith, in_range.1)))
          (λ g low high. let other : (x == g) ≡ false = ne_eqb x g (λ is. omega (arith, is, e, low)) in sym (ap (λ (b : Bool). b || is_among xs g) other) ∙ same g (omega arith) (omega arith))))
      | inr e ↦
          let here = within x (or_left (x == x) (is_among xs x) (eq-eqb x x refl)) in
          let least : is_among (x ∷ xs) a ≡ false = below_none x a xs (omega (arith, here.0, e)) r in
          let fails : p a ≡ false = sym (same a (omega arith) (omega arith)) ∙ least in
          rw fails (rising_are p (a + 1) n (x ∷ xs) r
          (λ g h. let in_range = within g h in (
            elim (cases_eq g a) [
              | inl is ↦ absurd (false≢true (sym least ∙ ap (is_among (x ∷ xs)) (sym is) ∙ h))
              | inr is ↦ omega (arith, in_range.0, is)
            ],
            omega (arith, in_range.1),
          ))
          (λ g low high. same g (omega arith) (omega arith)))
    ]

-- ---- one more
pub among_at : (xs : List ℕ) (k : ℕ) → k < length xs → is_among xs (get_or xs k 0) ≡ true
among_at [] k h = absurd (omega arith)
among_at (x ∷ xs) zero h = or_left (x == x) (is_among xs x) (eq-eqb x x refl)
among_at (x ∷ xs) (suc k) h = or_right (x == get_or xs k 0) (is_among xs (get_or xs k 0)) (among_at xs k (omega arith))

pub in_order : (xs : List ℕ) → IsRising xs → (i j : ℕ) → i ≤ j → j < length xs → get_or xs i 0 ≤ get_or xs j 0
in_order [] r i j low high = absurd (omega arith)
in_order (x ∷ xs) r zero zero low high = omega arith
in_order (x ∷ xs) r zero (suc j) low high = let above = r.0 (get_or xs j 0) (among_at xs j (omega arith)) in omega (arith, above)
in_order (x ∷ xs) r (suc i) zero low high = absurd (omega arith)
in_order (x ∷ xs) r (suc i) (suc j) low high = in_order xs r.1 i j (omega arith) (omega arith)

all_above : (xs : List ℕ) (y : ℕ) → ((k : ℕ) → k < length xs → y < get_or xs k 0) → (g : ℕ) → is_among xs g ≡ true → y < g
all_above [] y above g h = absurd (false≢true h)
all_above (x ∷ xs) y above g h =
    elim (or_cases (x == g) (is_among xs g) h) [
      | inl e ↦ let same = eqb-true x g e in let first = above 0 (omega arith) in omega (arith, same, first)
      | inr e ↦ all_above xs y (λ k low. above (suc k) (omega arith)) g e
    ]

or_swap : (a b c : Bool) → (a || (b || c)) ≡ (b || (a || c))
or_swap true true c = refl
or_swap true false c = refl
or_swap false b c = refl

pub insert_members : (xs : List ℕ) (i y : ℕ) → i ≤ length xs → (g : ℕ) → is_among (insert xs i y) g ≡ (y == g || is_among xs g)
insert_members xs zero y h g = refl
insert_members [] (suc i) y h g = absurd (omega arith)
insert_members (x ∷ xs) (suc i) y h g =
    ap (λ (b : Bool). x == g || b) (insert_members xs i y (omega arith) g) ∙ or_swap (x == g) (y == g) (is_among xs g)

pub insert_rising : (xs : List ℕ) (i y : ℕ) → IsRising xs → i ≤ length xs → ((k : ℕ) → k < i → get_or xs k 0 < y) → ((k : ℕ) → i ≤ k → k < length xs → y < get_or xs k 0) → IsRising (insert xs i y)
insert_rising xs zero y r h less more = (all_above xs y (λ k. more k (omega arith)), r)
insert_rising [] (suc i) y r h less more = absurd (omega arith)
insert_rising (x ∷ xs) (suc i) y r h less more = (
  λ g there. elim (or_cases (y == g) (is_among xs g) (sym (insert_members xs i y (omega arith) g) ∙ there)) [
    | inl e ↦ let same = eqb-true y g e in let first = less 0 (omega arith) in omega (arith, same, first)
    | inr e ↦ r.0 g e
  ],
  insert_rising xs i y r.1 (omega arith) (λ k low. less (suc k) (omega arith)) (λ k low high. more (suc k) (omega arith) (omega arith)),
)

-- a number that is there already
pub among_again : (xs : List ℕ) (i y : ℕ) → i < length xs → get_or xs i 0 ≡ y → (g : ℕ) → is_among xs g ≡ (y == g || is_among xs g)
among_again xs i y h is g =
    elim (cases_eq y g) [
      | inl e ↦ ap (is_among xs) (sym (is ∙ e)) ∙ among_at xs i h ∙ sym (ap (λ (b : Bool). b || is_among xs g) (eq-eqb y g e))
      | inr e ↦ sym (ap (λ (b : Bool). b || is_among xs g) (ne_eqb y g e))
    ]

-- ---- where a search ends
pub record IsPut (old new : List ℕ) (y : ℕ) : Type 0 where
  pub rising : IsRising new
  pub members : (g : ℕ) → is_among new g ≡ (y == g || is_among old g)

pub put_again : (xs : List ℕ) (i y : ℕ) → IsRising xs → IsBinarySearchResult (λ x. nat_cmp x y) xs (Ok i) → IsPut xs xs y
put_again xs i y r so =
    let at = searched xs y (Ok i) so (in_order xs r) in
    record { rising = r; members = among_again xs i y at.0 at.1 }

pub put_new : (xs new : List ℕ) (i y : ℕ) → IsRising xs → IsBinarySearchResult (λ x. nat_cmp x y) xs (Err i) → new ≡ insert xs i y → IsPut xs new y
put_new xs new i y r so is =
    let at = searched xs y (Err i) so (in_order xs r) in
    subst (λ (l : List ℕ). IsPut xs l y) (sym is) (record { rising = insert_rising xs i y r at.0 at.1 at.2; members = insert_members xs i y at.0 })
