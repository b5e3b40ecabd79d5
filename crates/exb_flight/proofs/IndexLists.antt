-- Numbers that rise, and how often one stands in a list.
use Rattle.std.proofs.Common.{◌≡◌, ℕ, zero, suc, ◌+◌, ◌<◌, ◌≤◌, ◌==◌, ◌&&◌, ◌||◌, ◌++◌, cond, Bool, true, false, List, [], ◌∷◌, length, Some, nat_lt, refl, ◌∙◌, ap, subst, arith, inl, inr, eq-eqb, length-append}
use Rattle.std.specs.Prelude.{max, slice_get}
use Rattle.std.proofs.lemmas.Option.{slice_get_within, slice_get-get_or, get_or_from_slice_get}
use Rattle.std.proofs.lemmas.Bool.{cases_Bool, cases_eq, cases_lt, ne_eqb, lt-ltb, le-leb, lt-leb}
use Rattle.std.proofs.Math.ListN.{get_or-append}
use Rattle.std.proofs.Math.Seq.{get_or-append_seam}
use Rattle.exb_model.specs.LegalHistory.{Rise, relays_and_late}
use Rattle.exb_model.specs.Lists.{numbered}
use Rattle.exb_flight.specs.Items.{Each}
use Rattle.exb_flight.specs.NamedArrivals.{times, once_to, firsts}

-- ---- how often
pub times_append : (n : ℕ) (xs ys : List ℕ) → times n (xs ++ ys) ≡ times n xs + times n ys
times_append n [] ys = omega arith
times_append n (x ∷ xs) ys = let e = times_append n xs ys in omega (arith, e)

-- one more number than there were
pub once_more : (most n : ℕ) → once_to (most + 1) n ≡ once_to most n + times n ((most + 1) ∷ [])
once_more most n =
    elim (cases_eq (most + 1) n) [
      | inl e ↦ rw (eq-eqb (most + 1) n e, lt-ltb 0 n (omega (arith, e)), le-leb n (most + 1) (omega (arith, e)), lt-leb n most (omega (arith, e))) refl
      | inr e ↦ rw (ne_eqb (most + 1) n e) (
          elim (cases_lt most n) [
            | inl l ↦ rw (lt-leb n most l, lt-leb n (most + 1) (omega (arith, l, e)), none (nat_lt 0 n)) refl
            | inr l ↦ rw (le-leb n most l, le-leb n (most + 1) (omega (arith, l))) (omega arith)
          ])
    ]
  where
    none : (b : Bool) → ◌≡◌ {A = ℕ} (cond (b && false) 1 0) 0
    none true = refl
    none false = refl

-- a number that stands there is one of those
once_low : (most n : ℕ) → 1 ≤ once_to most n → n ≤ most
once_low most n l =
    elim (cases_lt most n) [
      | inr m ↦ m
      | inl m ↦ absurd (none (nat_lt 0 n) (rw (lt-leb n most m) at l))
    ]
  where
    none : (b : Bool) → 1 ≤ cond (b && false) 1 0 → ⊥
    none true l = omega (arith, l)
    none false l = omega (arith, l)

stands_there : (all xs : List ℕ) → ((n : ℕ) → times n xs ≤ times n all) → Each (λ x. 1 ≤ times x all) xs
stands_there all [] k = tt
stands_there all (x ∷ xs) k = (here (times x xs) (times x all) (rw (eq-eqb x x refl) at (k x)), stands_there all xs (λ n. more (cond (x == n) 1 0) (times n xs) (times n all) (k n)))
  where
    here : (a b : ℕ) → 1 + a ≤ b → 1 ≤ b
    here a b l = omega (arith, l)

    more : (a b c : ℕ) → a + b ≤ c → b ≤ c
    more a b c l = omega (arith, l)

pub each_change : {X : Type 0} (P Q : X → Type 0) (xs : List X) → ((x : X) → P x → Q x) → Each P xs → Each Q xs
each_change P Q [] k h = tt
each_change P Q (x ∷ xs) k h = (k x h.0, each_change P Q xs k h.1)

pub all_low : (most : ℕ) (xs : List ℕ) → ((n : ℕ) → times n xs ≡ once_to most n) → Each (λ x. x ≤ most) xs
all_low most xs once =
    each_change (λ x. 1 ≤ times x xs) (λ x. x ≤ most) xs (λ x l. once_low most x (subst (λ (n : ℕ). 1 ≤ n) (once x) l)) (stands_there xs xs (λ n. itself_le (times n xs)))
  where
    itself_le : (a : ℕ) → a ≤ a
    itself_le a = omega arith

pub each_front : {X : Type 0} (P : X → Type 0) (xs ys : List X) → Each P (xs ++ ys) → Each P xs
each_front P [] ys h = tt
each_front P (x ∷ xs) ys h = (h.0, each_front P xs ys h.1)

pub each_back : {X : Type 0} (P : X → Type 0) (xs ys : List X) → Each P (xs ++ ys) → Each P ys
each_back P [] ys h = h
each_back P (x ∷ xs) ys h = each_back P xs ys h.1

pub each_join : {X : Type 0} (P : X → Type 0) (xs ys : List X) → Each P xs → Each P ys → Each P (xs ++ ys)
each_join P [] ys a b = b
each_join P (x ∷ xs) ys a b = (a.0, each_join P xs ys a.1 b)

-- ---- rising
pub rise_lower : (low high : ℕ) (xs : List ℕ) → low ≤ high → Rise high xs → Rise low xs
rise_lower low high [] l r = tt
rise_lower low high (x ∷ xs) l r = (let g = r.0 in omega (arith, l, g), r.1)

-- a greater number at the end
pub rise_end : (low n : ℕ) (xs : List ℕ) → Rise low xs → low < n → Each (λ x. x < n) xs → Rise low (xs ++ n ∷ [])
rise_end low n [] r l below = (l, tt)
rise_end low n (x ∷ xs) r l below = (r.0, rise_end x n xs r.1 below.0 below.1)

-- one number less
pub rise_drop : (low n : ℕ) (xs ys : List ℕ) → Rise low (xs ++ n ∷ ys) → Rise low (xs ++ ys)
rise_drop low n [] ys r = (let g = r.0 in rise_lower low n ys (omega (arith, g)) r.1)
rise_drop low n (x ∷ xs) ys r = (r.0, rise_drop x n xs ys r.1)

-- ---- Relays and the late ones among the Ignored
pub most_of : ℕ → List (ℕ × Bool) → ℕ
most_of most [] = most
most_of most ((n, relayed) ∷ xs) = most_of (max most n) xs

pub late_end : (most n : ℕ) (b : Bool) (xs : List (ℕ × Bool)) → relays_and_late most (xs ++ (n, b) ∷ []) ≡ relays_and_late most xs ++ cond (b || nat_lt n (most_of most xs)) (n ∷ []) []
unfolding most_of
late_end most n b [] = refl
late_end most n b ((m, c) ∷ xs) =
    elim (cases_Bool (c || nat_lt m most)) [
      | inl e ↦ rw e (ap (λ (z : List ℕ). m ∷ z) (late_end (max most m) n b xs))
      | inr e ↦ rw e (late_end (max most m) n b xs)
    ]

pub most_low : (most top : ℕ) (xs : List (ℕ × Bool)) → most ≤ top → Each (λ x. x ≤ top) (firsts xs) → most_of most xs ≤ top
unfolding most_of
most_low most top [] l h = l
most_low most top ((n, b) ∷ xs) l h = most_low (max most n) top xs (both most n top l h.0) h.1
  where
    both : (a b c : ℕ) → a ≤ c → b ≤ c → max a b ≤ c
    both a b c x y = omega (arith, x, y)

pub late_low : (most top : ℕ) (xs : List (ℕ × Bool)) → Each (λ x. x ≤ top) (firsts xs) → Each (λ x. x ≤ top) (relays_and_late most xs)
late_low most top [] h = tt
late_low most top ((n, b) ∷ xs) h =
    elim (cases_Bool (b || nat_lt n most)) [
      | inl e ↦ rw e (h.0, late_low (max most n) top xs h.1)
      | inr e ↦ rw e (late_low (max most n) top xs h.1)
    ]

pub firsts_append : (xs ys : List (ℕ × Bool)) → firsts (xs ++ ys) ≡ firsts xs ++ firsts ys
firsts_append [] ys = refl
firsts_append (x ∷ xs) ys = ap (λ (z : List ℕ). x.0 ∷ z) (firsts_append xs ys)

-- ---- members by number
pub numbered_more : {X : Type 0} (xs ys : List X) (n : ℕ) (x : X) → numbered xs n ≡ Some x → numbered (xs ++ ys) n ≡ Some x
numbered_more xs ys zero x e = absurd (cc)
numbered_more xs ys (suc n) x e =
    let within : n < length xs = slice_get_within xs n x e in
    let longer = length-append xs ys in
    slice_get-get_or (xs ++ ys) n x (omega (arith, within, longer)) ∙ ap Some (get_or-append xs ys x n within ∙ get_or_from_slice_get xs n x x e)

pub numbered_last : {X : Type 0} (xs : List X) (x : X) → numbered (xs ++ x ∷ []) (length xs + 1) ≡ Some x
numbered_last xs x =
    let longer = length-append xs (x ∷ []) in
    at_suc (length xs + 1) (omega arith) (slice_get-get_or (xs ++ x ∷ []) (length xs) x (omega (arith, longer)) ∙ ap Some (get_or-append_seam xs x [] x))
  where
    at_suc : (n : ℕ) → n ≡ suc (length xs) → slice_get (xs ++ x ∷ []) (length xs) ≡ Some x → numbered (xs ++ x ∷ []) n ≡ Some x
    at_suc n e f = rw e f
