-- What a line of the journal tells of its event. A number ends where no digit follows, so the line is read from its front.
use Rattle.std.proofs.Common.{◌≡◌, ◌⊎◌, inl, inr, ℕ, ◌+◌, ◌/◌, ◌%◌, true, false, List, [], ◌∷◌, ◌++◌, refl, sym, ap, subst, ◌∙◌, append_assoc, arith}
use Rattle.std.specs.Prelude.{codes, decimal, nat_lt, slice_index}
use Rattle.std.specs.List.{AllByRecursion}
use Rattle.std.specs.Int.{IsInRange}
use Rattle.std.specs.Str.Parse.{AllDigits}
use Rattle.std.proofs.lemmas.Bool.{cases_Bool}
use Rattle.std.proofs.lemmas.Fmt.{decimal_is_IsNumeral, decimal_injective}
use Rattle.std.proofs.lemmas.List.{append_cancel_left}
use Rattle.std.proofs.lemmas.Str.Parse.{tells_digits}
use Rattle.exb_model.specs.declared.event.Cause.{Cause}
use Rattle.exb_model.specs.declared.event.Cause.TheVariants as cause
use Rattle.exb_model.specs.Texts.{port_name, cause_text}
use Rattle.exb_model_laws.specs.UniqueHistory.{IsWord, HasWords, IsPort}

-- ---- a text of one sort of byte and what follows it
pub heads : {A : Type 0} {x y : A} {xs ys : List A} → x ∷ xs ≡ y ∷ ys → x ≡ y
heads e = cc

pub tails : {A : Type 0} {x y : A} {xs ys : List A} → x ∷ xs ≡ y ∷ ys → xs ≡ ys
tails e = cc

module _ (P : ℕ → Type 0) (c d : ℕ) (ends : P c → ⊥) (stops : P d → ⊥) where
  apart : (xs ys r s : List ℕ) → AllByRecursion P xs → AllByRecursion P ys → xs ++ (c ∷ r) ≡ ys ++ (d ∷ s) → (xs ≡ ys) × (c ∷ r ≡ d ∷ s)
  apart [] [] r s all more e = (refl, e)
  apart [] (y ∷ ys) r s all more e = absurd (ends (subst P (sym (heads e)) more.0))
  apart (x ∷ xs) [] r s all more e = absurd (stops (subst P (heads e) all.0))
  apart (x ∷ xs) (y ∷ ys) r s all more e =
      let rest : (xs ≡ ys) × (c ∷ r ≡ d ∷ s) = apart xs ys r s all.1 more.1 (tails e) in
      ((let first : x ≡ y = heads e in let others : xs ≡ ys = rest.0 in cc), rest.1)

-- ---- numbers
abbrev IsDigit : ℕ → Type 0
IsDigit c = IsInRange 48 57 c

each_digit : (ds : List ℕ) → AllDigits 10 ds → AllByRecursion IsDigit ds
each_digit [] all = tt
each_digit (c ∷ ds) all = let k = tells_digits.parts c ds all in (k.0, each_digit ds k.1)

digits_of : (n : ℕ) → IsWord n → AllByRecursion IsDigit (decimal n)
digits_of n h = each_digit (decimal n) (decimal_is_IsNumeral n h).0.1

pub number_tells : (m n c d : ℕ) (r s : List ℕ) → IsWord m → IsWord n → (IsDigit c → ⊥) → (IsDigit d → ⊥) → decimal m ++ (c ∷ r) ≡ decimal n ++ (d ∷ s) → (m ≡ n) × (c ∷ r ≡ d ∷ s)
number_tells m n c d r s h k ends stops e =
    let both : (decimal m ≡ decimal n) × (c ∷ r ≡ d ∷ s) = apart IsDigit c d ends stops (decimal m) (decimal n) r s (digits_of m h) (digits_of n k) e in
    (decimal_injective m n h k both.0, both.1)

-- a newline, a space and a point aren't digits
pub newline : IsDigit 10 → ⊥
newline k = omega (arith, k.0)

pub space : IsDigit 32 → ⊥
space k = omega (arith, k.0)

point : IsDigit 46 → ⊥
point k = omega (arith, k.0)

pub last_number : (m n : ℕ) (r s : List ℕ) → IsWord m → IsWord n → decimal m ++ (10 ∷ r) ≡ decimal n ++ (10 ∷ s) → (m ≡ n) × (r ≡ s)
last_number m n r s h k e = let both = number_tells m n 10 10 r s h k newline newline e in (both.0, tails both.1)

-- ---- names of ports
-- the name is of a local port, or of one of an extender
local_name : (p : ℕ) → nat_lt p 64 ≡ true → port_name p ≡ 98 ∷ decimal (p + 1)
local_name p h = rw h refl

far_name : (p : ℕ) → nat_lt p 64 ≡ false → port_name p ≡ 120 ∷ (decimal (p / 64) ++ (46 ∷ decimal (p % 64 + 1)))
far_name p h = rw h (append_assoc (120 ∷ decimal (p / 64)) (46 ∷ []) (decimal (p % 64 + 1)))

pub port_tells : (p q c d : ℕ) (r s : List ℕ) → IsPort p → IsPort q → (IsDigit c → ⊥) → (IsDigit d → ⊥) → port_name p ++ (c ∷ r) ≡ port_name q ++ (d ∷ s) → (p ≡ q) × (c ∷ r ≡ d ∷ s)
port_tells p q c d r s h k ends stops e = by_sort (cases_Bool (nat_lt p 64)) (cases_Bool (nat_lt q 64))
  where
    named : (us vs : List ℕ) → port_name p ≡ us → port_name q ≡ vs → us ++ (c ∷ r) ≡ vs ++ (d ∷ s)
    named us vs a b = sym (ap (λ (xs : List ℕ). xs ++ (c ∷ r)) a) ∙ e ∙ ap (λ (xs : List ℕ). xs ++ (d ∷ s)) b

    both_local : nat_lt p 64 ≡ true → nat_lt q 64 ≡ true → (p ≡ q) × (c ∷ r ≡ d ∷ s)
    both_local a b =
        let t : (p + 1 ≡ q + 1) × (c ∷ r ≡ d ∷ s) =
        number_tells (p + 1) (q + 1) c d r s (omega arith) (omega arith) ends stops (tails (named (98 ∷ decimal (p + 1)) (98 ∷ decimal (q + 1)) (local_name p a) (local_name q b))) in
        (omega (arith, t.0), t.1)

    both_far : nat_lt p 64 ≡ false → nat_lt q 64 ≡ false → (p ≡ q) × (c ∷ r ≡ d ∷ s)
    both_far a b =
        let z = named (120 ∷ (decimal (p / 64) ++ (46 ∷ decimal (p % 64 + 1)))) (120 ∷ (decimal (q / 64) ++ (46 ∷ decimal (q % 64 + 1)))) (far_name p a) (far_name q b) in
        let y : decimal (p / 64) ++ (46 ∷ (decimal (p % 64 + 1) ++ (c ∷ r))) ≡ decimal (q / 64) ++ (46 ∷ (decimal (q % 64 + 1) ++ (d ∷ s))) =
        sym (append_assoc (decimal (p / 64)) (46 ∷ decimal (p % 64 + 1)) (c ∷ r)) ∙ tails z ∙ append_assoc (decimal (q / 64)) (46 ∷ decimal (q % 64 + 1)) (d ∷ s) in
        let device = number_tells (p / 64) (q / 64) 46 46 (decimal (p % 64 + 1) ++ (c ∷ r)) (decimal (q % 64 + 1) ++ (d ∷ s)) (omega arith) (omega arith) point point y in
        let t = number_tells (p % 64 + 1) (q % 64 + 1) c d r s (omega arith) (omega arith) ends stops (tails device.1) in
        (omega (arith, device.0, t.0), t.1)

    by_sort : (nat_lt p 64 ≡ true) ⊎ (nat_lt p 64 ≡ false) → (nat_lt q 64 ≡ true) ⊎ (nat_lt q 64 ≡ false) → (p ≡ q) × (c ∷ r ≡ d ∷ s)
    by_sort (inl a) (inl b) = both_local a b
    by_sort (inr a) (inr b) = both_far a b
    by_sort (inl a) (inr b) = absurd (let z : 98 ≡ 120 = heads (named (98 ∷ decimal (p + 1)) (120 ∷ (decimal (q / 64) ++ (46 ∷ decimal (q % 64 + 1)))) (local_name p a) (far_name q b)) in omega arith)
    by_sort (inr a) (inl b) = absurd (let z : 120 ≡ 98 = heads (named (120 ∷ (decimal (p / 64) ++ (46 ∷ decimal (p % 64 + 1)))) (98 ∷ decimal (q + 1)) (far_name p a) (local_name q b)) in omega arith)

pub last_port : (p q : ℕ) (r s : List ℕ) → IsPort p → IsPort q → port_name p ++ (10 ∷ r) ≡ port_name q ++ (10 ∷ s) → (p ≡ q) × (r ≡ s)
last_port p q r s h k e = let both = port_tells p q 10 10 r s h k newline newline e in (both.0, tails both.1)

-- ---- causes
-- a cause that is told by its numbers, or is the same for another reason
abbrev pub IsKnown : Cause → Cause → Type 0
IsKnown x y = (x ≡ y) ⊎ (HasWords x × HasWords y)

both_numbers : (m n k l : ℕ) (r s : List ℕ) → IsWord m × IsWord n → IsWord k × IsWord l → decimal m ++ (32 ∷ (decimal n ++ (10 ∷ r))) ≡ decimal k ++ (32 ∷ (decimal l ++ (10 ∷ s))) → (m ≡ k) × (n ≡ l) × (r ≡ s)
both_numbers m n k l r s h j e =
    let first = number_tells m k 32 32 (decimal n ++ (10 ∷ r)) (decimal l ++ (10 ∷ s)) h.0 j.0 space space e in
    let second = last_number n l r s h.1 j.1 (tails first.1) in
    (first.0, second.0, second.1)

-- the text of a cause, with what follows it
channels_text : (m n : ℕ) (r : List ℕ) → cause_text (cause.Channels m n) ++ (10 ∷ r) ≡ codes " channels " ++ (decimal m ++ (32 ∷ (decimal n ++ (10 ∷ r))))
channels_text m n r = simp append_assoc

groups_text : (m n : ℕ) (r : List ℕ) → cause_text (cause.Groups m n) ++ (10 ∷ r) ≡ codes " groups " ++ (decimal m ++ (32 ∷ (decimal n ++ (10 ∷ r))))
groups_text m n r = simp append_assoc

words_tell : (x y : Cause) (r s : List ℕ) → HasWords x → HasWords y → cause_text x ++ (10 ∷ r) ≡ cause_text y ++ (10 ∷ s) → (x ≡ y) × (r ≡ s)
words_tell (cause.Channels m n) (cause.Channels k l) r s h j e =
    let t = both_numbers m n k l r s h j (append_cancel_left (codes " channels ") _ _ (sym (channels_text m n r) ∙ e ∙ channels_text k l s)) in
    ((let a : m ≡ k = t.0 in let b : n ≡ l = t.1 in cc), t.2)
words_tell (cause.Groups m n) (cause.Groups k l) r s h j e =
    let t = both_numbers m n k l r s h j (append_cancel_left (codes " groups ") _ _ (sym (groups_text m n r) ∙ e ∙ groups_text k l s)) in
    ((let a : m ≡ k = t.0 in let b : n ≡ l = t.1 in cc), t.2)
words_tell (cause.Channels m n) (cause.Groups k l) r s h j e =
    absurd (let z : 99 ≡ 103 = ap (λ (xs : List ℕ). slice_index xs 1) (sym (channels_text m n r) ∙ e ∙ groups_text k l s) in omega arith)
words_tell (cause.Groups m n) (cause.Channels k l) r s h j e =
    absurd (let z : 103 ≡ 99 = ap (λ (xs : List ℕ). slice_index xs 1) (sym (groups_text m n r) ∙ e ∙ channels_text k l s) in omega arith)

pub cause_tells : (x y : Cause) (r s : List ℕ) → IsKnown x y → cause_text x ++ (10 ∷ r) ≡ cause_text y ++ (10 ∷ s) → (x ≡ y) × (r ≡ s)
cause_tells x y r s (inl same) e = (same, tails (append_cancel_left (cause_text y) (10 ∷ r) (10 ∷ s) (ap (λ (z : Cause). cause_text z ++ (10 ∷ r)) (sym same) ∙ e)))
cause_tells x y r s (inr words) e = words_tell x y r s words.0 words.1 e

-- it begins with a space
record BeginsWithSpace (text : List ℕ) : Type 0 where
  rest : List ℕ
  is : text ≡ 32 ∷ rest

cause_begins : (x : Cause) → BeginsWithSpace (cause_text x)
cause_begins (cause.Channels m n) = record { rest = codes "channels " ++ decimal m ++ codes " " ++ decimal n; is = refl }
cause_begins (cause.Groups m n) = record { rest = codes "groups " ++ decimal m ++ codes " " ++ decimal n; is = refl }

-- what stands before the cause, and then the cause
module _ (x y : Cause) (r s : List ℕ) where
  pub number_and_cause : (m n : ℕ) → IsWord m → IsWord n → (m ≡ n → IsKnown x y) → decimal m ++ (cause_text x ++ (10 ∷ r)) ≡ decimal n ++ (cause_text y ++ (10 ∷ s)) → (m ≡ n) × (x ≡ y) × (r ≡ s)
  number_and_cause m n h k known e =
      let a = cause_begins x in
      let b = cause_begins y in
      let f : (us : List ℕ) → List ℕ = λ us. decimal m ++ (us ++ (10 ∷ r)) in
      let g : (us : List ℕ) → List ℕ = λ us. decimal n ++ (us ++ (10 ∷ s)) in
      let first = number_tells m n 32 32 (a.rest ++ (10 ∷ r)) (b.rest ++ (10 ∷ s)) h k space space (sym (ap f a.is) ∙ e ∙ ap g b.is) in
      let t = cause_tells x y r s (known first.0) (ap (λ (us : List ℕ). us ++ (10 ∷ r)) a.is ∙ first.1 ∙ sym (ap (λ (us : List ℕ). us ++ (10 ∷ s)) b.is)) in
      (first.0, t.0, t.1)

  pub port_and_cause : (p q : ℕ) → IsPort p → IsPort q → (p ≡ q → IsKnown x y) → port_name p ++ (cause_text x ++ (10 ∷ r)) ≡ port_name q ++ (cause_text y ++ (10 ∷ s)) → (p ≡ q) × (x ≡ y) × (r ≡ s)
  port_and_cause p q h k known e =
      let a = cause_begins x in
      let b = cause_begins y in
      let f : (us : List ℕ) → List ℕ = λ us. port_name p ++ (us ++ (10 ∷ r)) in
      let g : (us : List ℕ) → List ℕ = λ us. port_name q ++ (us ++ (10 ∷ s)) in
      let first = port_tells p q 32 32 (a.rest ++ (10 ∷ r)) (b.rest ++ (10 ∷ s)) h k space space (sym (ap f a.is) ∙ e ∙ ap g b.is) in
      let t = cause_tells x y r s (known first.0) (ap (λ (us : List ℕ). us ++ (10 ∷ r)) a.is ∙ first.1 ∙ sym (ap (λ (us : List ℕ). us ++ (10 ∷ s)) b.is)) in
      (first.0, t.0, t.1)
