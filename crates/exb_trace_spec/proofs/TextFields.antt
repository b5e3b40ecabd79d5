-- Words and lines that lack the byte at which a text is cut are read back, and so are numbers and names of ports.
use Rattle.std.proofs.Common.{◌≡◌, ◌⊎◌, inl, inr, ℕ, ◌+◌, ◌/◌, ◌%◌, ◌^◌, ◌<◌, ◌≤◌, ◌==◌, ◌&&◌, ◌||◌, nat_lt, not, Bool, true, false, List, [], ◌∷◌, ◌++◌, length, map, get_or, Option, Some, None, refl, ap, sym, ◌∙◌, subst, arith, append_assoc}
use Rattle.std.specs.Prelude.{decimal, flat_map, option_map, option_and_then, All}
use Rattle.std.specs.List.{slice_split, join_with_byte}
use Rattle.std.specs.Str.{all_ascii_digits}
use Rattle.std.specs.Str.Parse.{digits_value}
use Rattle.std.proofs.lemmas.Bool.{cases_lt, and_parts, lt-ltb, le-ltb, le-leb, eq-eqb, ne_eqb}
use Rattle.std.proofs.lemmas.Fmt.{decimal_by_steps, decimal_nonempty, decimal_digit, first_decimal, digits_decimal, digits_value-decimal}
use Rattle.std.proofs.lemmas.List.Elements.{All-cons, All-nil}
use Rattle.std.proofs.lemmas.List.Splits.{slice_split_at, slice_split_none}
use Rattle.std.proofs.lemmas.Str.Parse.{IsNumeralModel, numerals_by_value, tells_all_ascii_digits}
use Rattle.exb_model.specs.Texts.{port_name}
use Rattle.exb_trace_spec.specs.Traversals.{Each}
use Rattle.exb_trace_spec.specs.TextFields.{each_ended, lines_in, all_read, number_in, if_small, small_in, port_at, extended_in, port_in}

-- ---- texts without a byte
abbrev pub lacks : ℕ → List ℕ → Bool
lacks c [] = true
lacks c (x ∷ xs) = not (x == c) && lacks c xs

both : (a b : Bool) → a ≡ true → b ≡ true → (a && b) ≡ true
both a b x y = rw (x, y) refl

not_true : (b : Bool) → not b ≡ true → b ≡ false
not_true true e = absurd (cc)
not_true false e = refl

pub lacks_both : (c : ℕ) (xs ys : List ℕ) → lacks c xs ≡ true → lacks c ys ≡ true → lacks c (xs ++ ys) ≡ true
lacks_both c [] ys h k = k
lacks_both c (x ∷ xs) ys h k = (let p = and_parts (not (x == c)) (lacks c xs) h in both (not (x == c)) (lacks c (xs ++ ys)) p.0 (lacks_both c xs ys p.1 k))

all_other : (c : ℕ) (xs : List ℕ) → lacks c xs ≡ true → All (λ (x : ℕ). (x == c) ≡ false) xs
all_other c [] h = All-nil (λ (x : ℕ). (x == c) ≡ false)
all_other c (x ∷ xs) h = (let p = and_parts (not (x == c)) (lacks c xs) h in All-cons (λ (y : ℕ). (y == c) ≡ false) x xs (not_true (x == c) p.0) (all_other c xs p.1))

-- so they are the parts of what they are joined to
pub parts_joined : (c : ℕ) (w : List ℕ) (ws : List (List ℕ)) → lacks c w ≡ true → Each (λ (x : List ℕ). lacks c x ≡ true) ws → slice_split (λ x. x == c) (join_with_byte c (w ∷ ws)) ≡ w ∷ ws
parts_joined c w [] h hs = slice_split_none (λ x. x == c) w (all_other c w h)
parts_joined c w (v ∷ ws) h hs = slice_split_at (λ x. x == c) w c (join_with_byte c (v ∷ ws)) (all_other c w h) (eq-eqb c c refl) ∙ ap (λ (z : List (List ℕ)). w ∷ z) (parts_joined c v ws hs.0 hs.1)

-- ---- lines
more_ended : (line : List ℕ) (parts lines : List (List ℕ)) → each_ended parts ≡ Some lines → each_ended (line ∷ parts) ≡ Some (line ∷ lines)
more_ended line [] lines e = absurd (none_some e)
  where
    none_some : None ≡ Some lines → ⊥
    none_some z = cc
more_ended line (x ∷ parts) lines e = ap (option_map (λ (ls : List (List ℕ)). line ∷ ls)) e

pub lines_back : (lines : List (List ℕ)) → Each (λ (x : List ℕ). lacks 10 x ≡ true) lines → lines_in (flat_map (λ (l : List ℕ). l ++ 10 ∷ []) lines) ≡ Some lines
unfolding lines_in
lines_back [] all = refl
lines_back (l ∷ lines) all =
    let rest : List ℕ = flat_map (λ (z : List ℕ). z ++ 10 ∷ []) lines in
    ap (λ (text : List ℕ). each_ended (slice_split (λ x. x == 10) text)) (append_assoc l (10 ∷ []) rest)
    ∙ (ap each_ended (slice_split_at (λ x. x == 10) l 10 rest (all_other 10 l all.0) refl) ∙ more_ended l (slice_split (λ x. x == 10) rest) lines (lines_back lines all.1))

-- ---- all of them
pub all_back : {A : Type 0} (read : List ℕ → Option A) (write : A → List ℕ) (xs : List A) → Each (λ (x : A). read (write x) ≡ Some x) xs → all_read read (map write xs) ≡ Some xs
all_back read write [] all = refl
all_back {A} read write (x ∷ xs) all = rw (all.0, all_back read write xs all.1) refl

pub all_both : {A : Type 0} (read : List ℕ → Option A) (xs ys : List (List ℕ)) (bs cs : List A) → all_read read xs ≡ Some bs → all_read read ys ≡ Some cs → all_read read (xs ++ ys) ≡ Some (bs ++ cs)
all_both {A} read [] ys bs cs e f = f ∙ ap (λ (zs : List A). Some (zs ++ cs)) (some_same e)
  where
    some_same : Some [] ≡ Some bs → [] ≡ bs
    some_same z = cc
all_both {A} read (x ∷ xs) ys bs cs e f = by_first (read x) (all_read read xs) (all_read read (xs ++ ys)) (λ zs same. all_both read xs ys zs cs same f) e
  where
    some_same : {x y : List A} → Some x ≡ Some y → x ≡ y
    some_same z = cc

    none_some : None ≡ Some bs → ⊥
    none_some z = cc

    by_first : (o : Option A) (p q : Option (List A)) → ((zs : List A) → p ≡ Some zs → q ≡ Some (zs ++ cs)) → option_and_then (λ y. option_map (λ zs. y ∷ zs) p) o ≡ Some bs → option_and_then (λ y. option_map (λ zs. y ∷ zs) q) o ≡ Some (bs ++ cs)
    by_first None p q go e = absurd (none_some e)
    by_first (Some y) None q go e = absurd (none_some e)
    by_first (Some y) (Some zs) q go e = ap (option_map (λ (ls : List A). y ∷ ls)) (go zs refl) ∙ ap (λ (ls : List A). Some (ls ++ cs)) (some_same e)

-- ---- numbers
pub numerals : IsNumeralModel (λ (ds : List ℕ). all_ascii_digits ds ≡ true) (digits_value 10)
numerals = numerals_by_value (λ (ds : List ℕ). all_ascii_digits ds ≡ true) tells_all_ascii_digits

pub digits_of_decimal : (n : ℕ) → n < 2 ^ 64 → all_ascii_digits (decimal n) ≡ true
digits_of_decimal n small = digits_decimal numerals n small

digit_lacks : (c d : ℕ) → c < 48 → lacks c ((48 + d) ∷ []) ≡ true
digit_lacks c d low = rw (ne_eqb (48 + d) c (λ e. omega (arith, low, e))) refl

pub decimal_lacks : (c n : ℕ) → c < 48 → n < 2 ^ 64 → lacks c (decimal n) ≡ true
decimal_lacks c n low small = decimal_by_steps (λ m ds. lacks c ds ≡ true) (λ m h. digit_lacks c m low) (λ m ds h p. lacks_both c ds _ p (digit_lacks c (m % 10) low)) n small

read_number : (text : List ℕ) (n : ℕ) → all_ascii_digits text ≡ true → digits_value 10 text ≡ n → (48 < get_or text 0 0) ⊎ (length text ≡ 1) → 0 < length text → number_in text ≡ Some n
unfolding number_in
read_number [] n digits value first some = absurd (omega (arith, some))
read_number (c ∷ cs) n digits value (inl above) some = rw (digits, lt-ltb 48 c above) (ap Some value)
read_number (c ∷ []) n digits value (inr one) some = rw (digits, or_true (nat_lt 48 c)) (ap Some value)
  where
    or_true : (b : Bool) → (b || true) ≡ true
    or_true true = refl
    or_true false = refl
read_number (c ∷ d ∷ cs) n digits value (inr one) some = absurd (omega (arith, one))

pub number_back : (n : ℕ) → n < 2 ^ 64 → number_in (decimal n) ≡ Some n
number_back n small = read_number (decimal n) n (digits_decimal numerals n small) (digits_value-decimal numerals n small) (by_zero (cases_lt 0 n)) (decimal_nonempty n small)
  where
    by_zero : (0 < n) ⊎ (n ≤ 0) → (48 < get_or (decimal n) 0 0) ⊎ (length (decimal n) ≡ 1)
    by_zero (inl some) = inl (first_decimal n some small)
    by_zero (inr none) = inr (ap length (decimal_digit n (omega (arith, none))))

pub small_back : (n : ℕ) → 0 < n → n ≤ 64 → small_in (decimal n) ≡ Some n
unfolding small_in
small_back n some few = ap (option_and_then if_small) (number_back n (omega (arith, few))) ∙ rw (lt-ltb 0 n some, le-leb n 64 few) refl

-- ---- ports
port_of_bridge : (p : ℕ) → p < 64 → port_in (port_name p) ≡ Some p
unfolding port_in
port_of_bridge p low =
    let is : port_name p ≡ 98 ∷ decimal (p + 1) = rw (lt-ltb p 64 low) refl in
    ap port_in is ∙ (ap (option_map (port_at 0)) (small_back (p + 1) (omega arith) (omega (arith, low))) ∙ ap (λ (n : ℕ). Some n) (omega arith))

pub extended_name : (p : ℕ) → 64 ≤ p → port_name p ≡ 120 ∷ join_with_byte 46 (decimal (p / 64) ∷ decimal (p % 64 + 1) ∷ [])
extended_name p high = rw (le-ltb p 64 high) (ap (λ (l : List ℕ). 120 ∷ l) (append_assoc (decimal (p / 64)) (46 ∷ []) (decimal (p % 64 + 1))))

port_of_extender : (p : ℕ) → 64 ≤ p → p < 4160 → port_in (port_name p) ≡ Some p
unfolding port_in
port_of_extender p high low =
    let n : ℕ = p / 64 in
    let k : ℕ = p % 64 + 1 in
    let parts : slice_split (λ b. b == 46) (join_with_byte 46 (decimal n ∷ decimal k ∷ [])) ≡ decimal n ∷ decimal k ∷ [] =
    parts_joined 46 (decimal n) (decimal k ∷ []) (decimal_lacks 46 n (omega arith) (omega (arith, low))) (decimal_lacks 46 k (omega arith) (omega (arith, low)), tt) in
    ap port_in (extended_name p high)
    ∙ (ap extended_in parts
    ∙ (ap (option_and_then (λ device. option_map (port_at device) (small_in (decimal k)))) (small_back n (omega (arith, high)) (omega (arith, low)))
    ∙ (ap (option_map (port_at n)) (small_back k (omega arith) (omega arith)) ∙ ap (λ (m : ℕ). Some m) (omega arith))))

pub port_back : (p : ℕ) → p < 4160 → port_in (port_name p) ≡ Some p
port_back p low = elim (cases_lt p 64) [ inl local ↦ port_of_bridge p local | inr high ↦ port_of_extender p high low ]

pub port_lacks : (c p : ℕ) → c < 46 → p < 4160 → lacks c (port_name p) ≡ true
port_lacks c p low small =
    elim (cases_lt p 64) [
      | inl local ↦ rw (lt-ltb p 64 local) (front 98 (decimal (p + 1)) (omega arith) (decimal_lacks c (p + 1) (omega (arith, low)) (omega (arith, small))))
      | inr high ↦ subst (λ (text : List ℕ). lacks c text ≡ true) (sym (extended_name p high))
          (front 120 (decimal (p / 64) ++ 46 ∷ decimal (p % 64 + 1)) (omega arith)
          (lacks_both c (decimal (p / 64)) (46 ∷ decimal (p % 64 + 1)) (decimal_lacks c (p / 64) (omega (arith, low)) (omega (arith, small))) (front 46 (decimal (p % 64 + 1)) (omega arith) (decimal_lacks c (p % 64 + 1) (omega (arith, low)) (omega arith)))))
    ]
  where
    front : (x : ℕ) (xs : List ℕ) → 46 ≤ x → lacks c xs ≡ true → lacks c (x ∷ xs) ≡ true
    front x xs high h = rw (ne_eqb x c (λ e. omega (arith, low, high, e))) h
