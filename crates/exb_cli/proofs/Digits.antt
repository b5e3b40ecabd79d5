-- Numbers, digit by digit.
use Rattle.std.proofs.Common.{◌≡◌, ℕ, ◌+◌, ◌-◌, ◌*◌, ◌^◌, ◌<◌, ◌≤◌, ◌==◌, nat_lt, nat_le, Bool, true, false, ◌&&◌, if◌then◌else◌, List, [], ◌∷◌, length, drop, slice_index, Option, Some, None, refl, sym, ap, ◌∙◌, arith, rules, tests}
use Rattle.std.specs.Char.{digit_value, is_ascii_digit}
use Rattle.std.specs.Str.{all_ascii_digits}
use Rattle.std.specs.Str.Parse.{digits_value, digits_value_after}
use Rattle.std.proofs.lemmas.List.{at_drop_more, at_drop_all}
use Rattle.std.proofs.lemmas.Bool.Decides.{nat_tests}
use Rattle.std.proofs.lemmas.Bool.{lt-ltb, le-ltb, le-leb}
use Rattle.exb_cli.specs.CommandLines.{if_short, number_in}

-- the number that digits write behind those of n, where it is below 2^64
abbrev pub number_after : ℕ → List ℕ → Option ℕ
number_after n ds = if all_ascii_digits ds then if_short (digits_value_after 10 n ds) else None

digit-value : (c : ℕ) → is_ascii_digit c ≡ true → digit_value c ≡ c - 48
digit-value c h = grind (arith, nat_tests)

-- a number only grows by more digits
after-grows : (n : ℕ) (ds : List ℕ) → n ≤ digits_value_after 10 n ds
after-grows n [] = omega arith
after-grows n (c ∷ cs) = let rest = after-grows (n * 10 + digit_value c) cs in omega (arith, rest)

short-yes : (n : ℕ) → n < 2 ^ 64 → if_short n ≡ Some n
short-yes n h = ap (λ (b : Bool). if b then Some n else None) (lt-ltb n (2 ^ 64) h)

short-no : (n : ℕ) → 2 ^ 64 ≤ n → if_short n ≡ None
short-no n h = ap (λ (b : Bool). if b then Some n else None) (le-ltb n (2 ^ 64) h)

-- one digit more
number-more : (n c : ℕ) (cs : List ℕ) → is_ascii_digit c ≡ true → number_after n (c ∷ cs) ≡ number_after (n * 10 + (c - 48)) cs
number-more n c cs h =
    ap (λ (b : Bool). if b && all_ascii_digits cs then if_short (digits_value_after 10 (n * 10 + digit_value c) cs) else None) h
    ∙ ap (λ (v : ℕ). if all_ascii_digits cs then if_short (digits_value_after 10 (n * 10 + v) cs) else None) (digit-value c h)

number-no_digit : (n c : ℕ) (cs : List ℕ) → is_ascii_digit c ≡ false → number_after n (c ∷ cs) ≡ None
number-no_digit n c cs h =
    ap (λ (b : Bool). if b && all_ascii_digits cs then if_short (digits_value_after 10 (n * 10 + digit_value c) cs) else None) h

-- the value passes what 64 bits hold
number-large : (n : ℕ) (ds : List ℕ) → 2 ^ 64 ≤ n → number_after n ds ≡ None
number-large n ds h = by_test (all_ascii_digits ds) (digits_value_after 10 n ds) (let g = after-grows n ds in omega (arith, g))
  where
    by_test : (b : Bool) (m : ℕ) → 2 ^ 64 ≤ m → (if b then if_short m else None) ≡ None
    by_test true m g = short-no m g
    by_test false m g = refl

-- ---- by whole words
number-whole : (word : List ℕ) → 0 < length word → length word ≤ 20 → number_in word ≡ number_after 0 word
unfolding number_in
number-whole word some few =
    ap (λ (b : Bool). if b && (nat_le (length word) 20 && all_ascii_digits word) then if_short (digits_value 10 word) else None) (lt-ltb 0 (length word) some)
    ∙ ap (λ (b : Bool). if b && all_ascii_digits word then if_short (digits_value 10 word) else None) (le-leb (length word) 20 few)

pub number-empty : (word : List ℕ) → length word ≡ 0 → None ≡ number_in word
unfolding number_in
number-empty word h =
    ap (λ (n : ℕ). if nat_lt 0 n && (nat_le (length word) 20 && all_ascii_digits word) then if_short (digits_value 10 word) else None) (sym h)

pub number-long : (word : List ℕ) → 20 < length word → None ≡ number_in word
unfolding number_in
number-long word h = by_test (nat_lt 0 (length word)) (nat_le (length word) 20) (search (rules, tests))
  where
    by_test : (a b : Bool) → b ≡ false → None ≡ (if a && (b && all_ascii_digits word) then if_short (digits_value 10 word) else None)
    by_test true b e = ap (λ (x : Bool). if x && all_ascii_digits word then if_short (digits_value 10 word) else None) (sym e)
    by_test false b e = refl

-- a word of the right length, read up to digit i: what is left leads from n to the whole
pub record IsRead (word : List ℕ) (i n : ℕ) : Type 0 where
  pub some : 0 < length word
  pub few : length word ≤ 20
  pub short : n < 2 ^ 64
  pub left : number_after n (drop i word) ≡ number_after 0 word

pub read-none : (word : List ℕ) → (length word == 0) ≡ false → length word ≤ 20 → IsRead word 0 0
read-none word some few = record { some = above (length word) some; few = few; short = omega arith; left = refl }
  where
    above : (n : ℕ) → (n == 0) ≡ false → 0 < n
    above n h = grind (arith, nat_tests)

read_from : (word : List ℕ) (i n : ℕ) → IsRead word i n → i < length word → (o : Option ℕ) → number_after n (slice_index word i ∷ drop (i + 1) word) ≡ o → o ≡ number_in word
read_from word i n h l o e =
    sym e ∙ (sym (at_drop_more (number_after n) word i 0 l) ∙ (h.left ∙ sym (number-whole word h.some h.few)))

pub read-no_digit : (word : List ℕ) (i n : ℕ) → IsRead word i n → i < length word → is_ascii_digit (slice_index word i) ≡ false → None ≡ number_in word
read-no_digit word i n h l no_digit = read_from word i n h l None (number-no_digit n (slice_index word i) (drop (i + 1) word) no_digit)

pub read-large : (word : List ℕ) (i n : ℕ) → IsRead word i n → i < length word → is_ascii_digit (slice_index word i) ≡ true → None ≡ if_short (n * 10 + (slice_index word i - 48)) → None ≡ number_in word
read-large word i n h l digit large =
    read_from word i n h l None
    (number-more n (slice_index word i) (drop (i + 1) word) digit
    ∙ number-large (n * 10 + (slice_index word i - 48)) (drop (i + 1) word) (too_large (n * 10 + (slice_index word i - 48)) large))
  where
    too_large : (m : ℕ) → None ≡ if_short m → 2 ^ 64 ≤ m
    too_large m e = grind (arith, nat_tests)

pub read-more : (word : List ℕ) (i n m : ℕ) → IsRead word i n → i < length word → is_ascii_digit (slice_index word i) ≡ true → Some m ≡ if_short (n * 10 + (slice_index word i - 48)) → IsRead word (i + 1) m
read-more word i n m h l digit is = record {
  some = h.some;
  few = h.few;
  short = held m (n * 10 + (slice_index word i - 48)) is;
  left =
      ap (λ (k : ℕ). number_after k (drop (i + 1) word)) (same m (n * 10 + (slice_index word i - 48)) is)
      ∙ (sym (number-more n (slice_index word i) (drop (i + 1) word) digit)
      ∙ (sym (at_drop_more (number_after n) word i 0 l) ∙ h.left));
}
  where
    same : (m k : ℕ) → Some m ≡ if_short k → m ≡ k
    same m k e = grind (arith, nat_tests)

    held : (m k : ℕ) → Some m ≡ if_short k → m < 2 ^ 64
    held m k e = grind (arith, nat_tests)

pub read-end : (word : List ℕ) (i n : ℕ) → IsRead word i n → length word ≤ i → Some n ≡ number_in word
read-end word i n h end =
    sym (short-yes n h.short) ∙ (sym (at_drop_all (number_after n) word i end) ∙ (h.left ∙ sym (number-whole word h.some h.few)))
