-- The uses of groups: how many have one, and that there is none at the start.
use Rattle.std.proofs.Common.{◌≡◌, ℕ, zero, suc, ◌+◌, ◌-◌, ◌<◌, ◌≤◌, Bool, true, false, cond, List, [], ◌∷◌, ◌++◌, length, get_or, replicate, refl, sym, ap, ◌∙◌, inl, inr, arith, length-append}
use Rattle.std.specs.Prelude.{nat_lt, count_by, slice_set}
use Rattle.std.specs.List.{range_with_len}
use Rattle.std.proofs.lemmas.Bool.{cases_eq, cases_lt, lt-ltb}
use Rattle.std.proofs.lemmas.List.{get_or_past, get_or_push, get_or_append_left, get_or-append_right, length-replicate, length-set, set-append_left, append_assoc, replicate-append-replicate}
use Rattle.std.proofs.lemmas.Grind.{get_or_default_zero}
use Rattle.std.proofs.lemmas.List.Sums.{sum_by-cons, sum_by-append, sum_by-set}
use Rattle.std.proofs.lemmas.List.Folds.{sum_by-replicate}
use Rattle.exb_model.proofs.PortBits.{get_or-same}
use Rattle.exb_model.specs.Tree.{Shape, is_cascade}
use Rattle.exb_plan.specs.UseCounts.{padded, count_in, count_at, used_in}

-- ---- how many have a use
abbrev one_if : (ℕ → Bool) → ℕ → ℕ
one_if p x = cond (p x) 1 0

pub counted_alike : (p q : ℕ → Bool) (a n : ℕ) → ((g : ℕ) → a ≤ g → p g ≡ q g) → count_by p (range_with_len a n) ≡ count_by q (range_with_len a n)
counted_alike p q a zero same = refl
counted_alike p q a (suc n) same =
    let rest = counted_alike p q (a + 1) n (λ g low. same g (omega arith)) in
    let left = sum_by-cons (one_if p) a (range_with_len (a + 1) n) in
    let right = sum_by-cons (one_if q) a (range_with_len (a + 1) n) in
    let here : one_if p a ≡ one_if q a = ap (λ (b : Bool). cond b 1 0) (same a (omega arith)) in
    omega (arith, rest, left, right, here)

none_counted : (p : ℕ → Bool) (xs : List ℕ) → ((g : ℕ) → p g ≡ false) → count_by p xs ≡ 0
none_counted p [] never = refl
none_counted p (x ∷ xs) never =
    let rest = none_counted p xs never in
    let first = sum_by-cons (one_if p) x xs in
    let here : one_if p x ≡ 0 = ap (λ (b : Bool). cond b 1 0) (never x) in
    omega (arith, rest, first, here)

-- a test by places counts as the test on the list itself
counted_places : (row : List ℕ) (a n : ℕ) → length row ≤ n → count_by (λ g. nat_lt 0 (get_or row (g - a) 0)) (range_with_len a n) ≡ count_by (nat_lt 0) row
counted_places [] a n few = none_counted _ (range_with_len a n) (λ g. refl)
counted_places (x ∷ xs) a zero few = absurd (omega arith)
counted_places (x ∷ xs) a (suc n) few =
    let rest = counted_places xs (a + 1) n (omega arith) in
    let whole : ℕ → Bool = λ g. nat_lt 0 (get_or (x ∷ xs) (g - a) 0) in
    let later : ℕ → Bool = λ g. nat_lt 0 (get_or xs (g - (a + 1)) 0) in
    let shift = counted_alike whole later (a + 1) n (λ g low.
    let e : g - a ≡ suc (g - (a + 1)) = omega arith in ap (λ (i : ℕ). nat_lt 0 (get_or (x ∷ xs) i 0)) e) in
    let left = sum_by-cons (one_if whole) a (range_with_len (a + 1) n) in
    let right = sum_by-cons (one_if (nat_lt 0)) x xs in
    let z : a - a ≡ 0 = omega arith in
    let here : one_if whole a ≡ one_if (nat_lt 0) x = ap (λ (i : ℕ). cond (nat_lt 0 (get_or (x ∷ xs) i 0)) 1 0) z in
    left ∙ ap (λ (m : ℕ). m + count_by whole (range_with_len (a + 1) n)) here ∙ ap (λ (m : ℕ). one_if (nat_lt 0) x + m) (shift ∙ rest) ∙ sym right

pub used_count : (row : List ℕ) → length row ≤ 12288 → count_by (nat_lt 0) row ≡ used_in row
unfolding used_in
used_count row few = sym (counted_places row 4096 12288 few)

-- ---- a row of which the last uses, which are 0, aren't kept
pub padded_count : (n : ℕ) (row : List ℕ) → count_by (nat_lt 0) (padded n row) ≡ count_by (nat_lt 0) row
padded_count n row =
    let both = sum_by-append (one_if (nat_lt 0)) row (replicate (n - length row) 0) in
    let none = sum_by-replicate (one_if (nat_lt 0)) (n - length row) 0 in
    omega (arith, both, none)

pub padded_length : (n : ℕ) (row : List ℕ) → length row ≤ n → length (padded n row) ≡ n
padded_length n row few =
    let both = length-append row (replicate (n - length row) 0) in
    let last = length-replicate {A = ℕ} (n - length row) 0 in
    omega (arith, few, both, last)

pub padded_at : (n i : ℕ) (row : List ℕ) → get_or (padded n row) i 0 ≡ get_or row i 0
padded_at n i row =
    elim (cases_lt i (length row)) [
      | inl l ↦ get_or_append_left row (replicate (n - length row) 0) 0 i l
      | inr l ↦ get_or-append_right row (replicate (n - length row) 0) (length row) i 0 refl l ∙ get_or-same (n - length row) (i - length row) 0 ∙ sym (get_or_past row i 0 l)
    ]

-- more of them are kept
pub padded_reached : (n m : ℕ) (row : List ℕ) → m ≤ n → padded n (row ++ replicate (m - length row) 0) ≡ padded n row
padded_reached n m row few =
    let kept = replicate (m - length row) 0 in
    let both = length-append row kept in
    let more = length-replicate {A = ℕ} (m - length row) 0 in
    let left : (m - length row) + (n - length (row ++ kept)) ≡ n - length row = omega (arith, few, both, more) in
    append_assoc row kept (replicate (n - length (row ++ kept)) 0)
    ∙ ap (λ (ys : List ℕ). row ++ ys) (replicate-append-replicate (m - length row) (n - length (row ++ kept)) 0 ∙ ap (λ (k : ℕ). replicate k 0) left)

pub padded_set : (n i x : ℕ) (row : List ℕ) → i < length row → slice_set (padded n row) i x ≡ padded n (slice_set row i x)
padded_set n i x row low =
    set-append_left row (replicate (n - length row) 0) i x low
    ∙ ap (λ (k : ℕ). slice_set row i x ++ replicate (n - k) 0) (sym (length-set row i x))

-- a use more at a place that is made first
pub padded_raised : (n i x : ℕ) (row kept : List ℕ) → i < n → kept ≡ row ++ replicate (i + 1 - length row) 0 → x ≡ get_or kept i x →
    padded n (slice_set kept i (x + 1)) ≡ slice_set (padded n row) i (get_or (padded n row) i 0 + 1)
padded_raised n i x row kept few is here =
    let zeros : List ℕ = replicate (i + 1 - length row) 0 in
    let both = length-append row zeros in
    let more = length-replicate {A = ℕ} (i + 1 - length row) 0 in
    let sized : length kept ≡ length (row ++ zeros) = ap length is in
    let low : i < length kept = omega (arith, both, more, sized) in
    let same : padded n kept ≡ padded n row = ap (padded n) is ∙ padded_reached n (i + 1) row (omega (arith, few)) in
    let was : x ≡ get_or (padded n row) i 0 =
    here ∙ get_or_default_zero kept i x low ∙ sym (padded_at n i kept) ∙ ap (λ (ys : List ℕ). get_or ys i 0) same in
    sym (padded_set n i (x + 1) kept low) ∙ ap (λ (ys : List ℕ). slice_set ys i (x + 1)) same ∙ ap (λ (y : ℕ). slice_set (padded n row) i (y + 1)) was

-- a group that has a use has one that is kept
pub kept_within : (n i : ℕ) (row : List ℕ) → 0 < get_or (padded n row) i 0 → i < length row
kept_within n i row some =
    let same = padded_at n i row in
    elim (cases_lt i (length row)) [
      | inl l ↦ l
      | inr l ↦ let past = get_or_past row i 0 l in absurd (omega (arith, some, same, past))
    ]

-- a use less at a place that has one
pub padded_lowered : (n i x : ℕ) (row : List ℕ) → i < length row → x ≡ get_or row i x →
    padded n (slice_set row i (x - 1)) ≡ slice_set (padded n row) i (get_or (padded n row) i 0 - 1)
padded_lowered n i x row low here =
    let was : x ≡ get_or (padded n row) i 0 = here ∙ get_or_default_zero row i x low ∙ sym (padded_at n i row) in
    sym (padded_set n i (x - 1) row low) ∙ ap (λ (y : ℕ). slice_set (padded n row) i (y - 1)) was

-- what is read there is that use
pub kept_use : (n i x : ℕ) (row : List ℕ) → 0 < get_or (padded n row) i 0 → x ≡ get_or row i x → 0 < x
kept_use n i x row some here =
    let same = padded_at n i row in
    let read = get_or_default_zero row i x (kept_within n i row some) in
    omega (arith, some, here, same, read)

one_use : (x : ℕ) → 0 < x → one_if (nat_lt 0) x ≡ 1
one_use zero some = absurd (omega arith)
one_use (suc x) some = ap (λ (b : Bool). cond b 1 0) (lt-ltb 0 (suc x) some)

-- a group's last use goes, or one of several
pub lowered_last : (i x : ℕ) (row : List ℕ) → i < length row → x ≡ get_or row i x → x ≡ 1 → count_by (nat_lt 0) (slice_set row i (x - 1)) + 1 ≡ count_by (nat_lt 0) row
lowered_last i x row low here one =
    let both = sum_by-set (one_if (nat_lt 0)) row i (x - 1) x low in
    let was : one_if (nat_lt 0) (get_or row i x) ≡ 1 = ap (one_if (nat_lt 0)) (sym here ∙ one) in
    let now : one_if (nat_lt 0) (x - 1) ≡ 0 = ap (λ (y : ℕ). one_if (nat_lt 0) (y - 1)) one in
    omega (arith, both, was, now)

pub lowered_one : (i x : ℕ) (row : List ℕ) → i < length row → x ≡ get_or row i x → 1 < x → count_by (nat_lt 0) (slice_set row i (x - 1)) ≡ count_by (nat_lt 0) row
lowered_one i x row low here more =
    let both = sum_by-set (one_if (nat_lt 0)) row i (x - 1) x low in
    let was : one_if (nat_lt 0) (get_or row i x) ≡ 1 = ap (one_if (nat_lt 0)) (sym here) ∙ one_use x (omega (arith, more)) in
    let now : one_if (nat_lt 0) (x - 1) ≡ 1 = one_use (x - 1) (omega (arith, more)) in
    omega (arith, both, was, now)

pub used_none : used_in [] ≡ 0
used_none = sym (used_count [] (omega arith))

-- ---- the rows at the start, of the first n bridge ports
pub record AreRows (t : Shape) (groups : ℕ) (v : List (List ℕ)) (n : ℕ) : Type 0 where
  pub sized : length v ≡ n
  pub row : (k : ℕ) → k < n → get_or v k [] ≡ replicate (cond (is_cascade t k) groups 0) 0

pub row_more : (t : Shape) (groups granted : ℕ) (v : List (List ℕ)) (n : ℕ) → AreRows t groups v n → granted ≡ cond (is_cascade t (n + 1 - 1)) groups 0 → AreRows t groups (v ++ replicate granted 0 ∷ []) (n + 1)
row_more t groups granted v n r is =
    let z = r.sized in
    let place : n + 1 - 1 ≡ n = omega arith in
    record {
      sized = let l = length-append v (replicate granted 0 ∷ []) in omega (arith, l, z);
      row = λ k h. elim (cases_eq k n) [
        | inl e ↦ get_or_push v (replicate granted 0) [] k (z ∙ sym e) ∙ ap (λ (m : ℕ). replicate m 0) (is ∙ ap (λ (j : ℕ). cond (is_cascade t j) groups 0) (place ∙ sym e))
        | inr e ↦ get_or_append_left v (replicate granted 0 ∷ []) [] k (omega (arith, z)) ∙ r.row k (omega arith)
      ];
    }

pub rows_zero : (t : Shape) (groups : ℕ) (v : List (List ℕ)) (n : ℕ) → AreRows t groups v n → (k g : ℕ) → count_at v k g ≡ 0
rows_zero t groups v n r k g =
    elim (cases_lt k n) [
      | inl l ↦ ap (λ (xs : List ℕ). count_in xs g) (r.row k l) ∙ get_or-same (cond (is_cascade t k) groups 0) (g - 4096) 0
      | inr l ↦ ap (λ (xs : List ℕ). count_in xs g) (get_or_past v k [] (let z = r.sized in omega (arith, l, z)))
    ]

pub rows_sized : (t : Shape) (groups : ℕ) (v : List (List ℕ)) (n : ℕ) → AreRows t groups v n → (k : ℕ) → k < n → is_cascade t k ≡ true → length (get_or v k []) ≡ groups
rows_sized t groups v n r k l is =
    ap length (r.row k l) ∙ length-replicate (cond (is_cascade t k) groups 0) 0 ∙ ap (λ (b : Bool). cond b groups 0) is
