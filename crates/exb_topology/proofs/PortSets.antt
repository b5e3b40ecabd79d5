-- Sets of ports that grow by devices and ranges.
use Rattle.std.proofs.Common.{◌≡◌, ℕ, suc, ◌+◌, ◌-◌, ◌/◌, ◌%◌, ◌^◌, ◌<◌, ◌≤◌, max, ◌==◌, ◌&&◌, ◌||◌, Bool, true, false, nat_lt, nat_le, bit_or, List, length, slice_index, set, refl, sym, ap, ◌∙◌, arith, inl, inr}
use Rattle.std.specs.Int.{bit_at}
use Rattle.std.proofs.lemmas.Bool.{cases_eq, cases_lt, ne_eqb, eq-eqb, lt-ltb, le-ltb, le-leb, lt-leb}
use Rattle.std.proofs.lemmas.Bool.Decides.{nat_tests}
use Rattle.std.proofs.lemmas.List.{get_or_past, get_or-set_same, get_or-set_other}
use Rattle.std.proofs.lemmas.Nat.{or_lt}
use Rattle.std.proofs.lemmas.Nat.Bits.{bit_at_or, bit_at-lt, bit_at-zero}
use Rattle.exb_model.specs.PortBits.{has_port}
use Rattle.exb_topology.specs.Checks.{all_from}

-- no set has a port beyond its words
pub has_past : (ws : List ℕ) (q : ℕ) → length ws ≡ 65 → 65 ≤ q / 64 → has_port ws q ≡ false
unfolding has_port
has_past ws q sized past = rw (get_or_past ws (q / 64) 0 (omega (arith, sized)), bit_at-zero (q % 64)) refl

one_of_two : (x y : ℕ) → x < 2 → y < 2 → (max x y == 1) ≡ (x == 1 || y == 1)
one_of_two x y low_x low_y = grind (arith, nat_tests)

-- a word of another set put into a set
pub has_device : (ws other : List ℕ) (d q : ℕ) → d < length ws → has_port (set ws d (bit_or (slice_index ws d) (slice_index other d))) q ≡ (has_port ws q || (q / 64 == d && has_port other q))
unfolding has_port
has_device ws other d q lt =
    elim (cases_eq (q / 64) d) [
      | inl same ↦
          rw (same, eq-eqb d d refl, get_or-set_same ws d (bit_or (slice_index ws d) (slice_index other d)) 0 lt, bit_at_or (slice_index ws d) (slice_index other d) (q % 64))
          (one_of_two (bit_at (slice_index ws d) (q % 64)) (bit_at (slice_index other d) (q % 64)) (bit_at-lt (slice_index ws d) (q % 64)) (bit_at-lt (slice_index other d) (q % 64)))
      | inr other_word ↦
          rw (get_or-set_other ws d (q / 64) (bit_or (slice_index ws d) (slice_index other d)) 0 other_word, ne_eqb (q / 64) d other_word) (sym (or_false (bit_at (slice_index ws (q / 64)) (q % 64) == 1)))
    ]
  where
    or_false : (b : Bool) → (b || false) ≡ b
    or_false true = refl
    or_false false = refl

pub fits_device : (ws other : List ℕ) (d : ℕ) → d < length ws → ((n : ℕ) → slice_index ws n < 2 ^ 64) → ((n : ℕ) → slice_index other n < 2 ^ 64) → (n : ℕ) → slice_index (set ws d (bit_or (slice_index ws d) (slice_index other d))) n < 2 ^ 64
fits_device ws other d lt fits fits_other n =
    elim (cases_eq n d) [
      | inl same ↦ rw (same, get_or-set_same ws d (bit_or (slice_index ws d) (slice_index other d)) 0 lt) (or_lt 64 (slice_index ws d) (slice_index other d) (fits d) (fits_other d))
      | inr apart ↦ rw (get_or-set_other ws d n (bit_or (slice_index ws d) (slice_index other d)) 0 apart) (fits n)
    ]

pub devices_more : (old here : Bool) (n d : ℕ) → ((old || (nat_lt n d && here)) || (n == d && here)) ≡ (old || (nat_lt n (d + 1) && here))
devices_more old here n d =
    elim (cases_lt n d) [
      | inl l ↦ rw (lt-ltb n d l, lt-ltb n (d + 1) (omega arith), ne_eqb n d (λ e. absurd (omega (arith, e)))) (or_false (old || here))
      | inr g ↦ elim (cases_eq n d) [
        | inl e ↦ rw (le-ltb n d g, lt-ltb n (d + 1) (omega arith), eq-eqb n d e) (ap (λ b. b || here) (or_false old))
        | inr other ↦ rw (le-ltb n d g, le-ltb n (d + 1) (omega arith), ne_eqb n d other) (or_false (old || false))
      ]
    ]
  where
    or_false : (b : Bool) → (b || false) ≡ b
    or_false true = refl
    or_false false = refl

pub devices_all : (old : Bool) (ws : List ℕ) (q d : ℕ) → length ws ≡ 65 → d ≡ 65 → (old || (nat_lt (q / 64) d && has_port ws q)) ≡ (old || has_port ws q)
devices_all old ws q d sized all =
    elim (cases_lt (q / 64) d) [
      | inl l ↦ rw (lt-ltb (q / 64) d l) refl
      | inr g ↦ rw (le-ltb (q / 64) d g, has_past ws q sized (omega (arith, all))) refl
    ]

-- ranges
left : (k end : ℕ) → k < end → end - k ≡ suc (end - (k + 1))
left k end l = omega arith

pub all_more : (f : ℕ → Bool) (k end : ℕ) (total : Bool) → k < end → f k ≡ true → all_from f k (end - k) ≡ total → all_from f (k + 1) (end - (k + 1)) ≡ total
unfolding all_from
all_more f k end total l h so_far =
    let one : all_from f k (end - k) ≡ all_from f (k + 1) (end - (k + 1)) = rw (left k end l, h) refl in
    sym one ∙ so_far

pub all_fails : (f : ℕ → Bool) (k end : ℕ) (total : Bool) → k < end → f k ≡ false → all_from f k (end - k) ≡ total → false ≡ total
unfolding all_from
all_fails f k end total l h so_far =
    let one : all_from f k (end - k) ≡ false = rw (left k end l, h) refl in
    sym one ∙ so_far

pub all_end : (f : ℕ → Bool) (k end : ℕ) (total : Bool) → end ≤ k → all_from f k (end - k) ≡ total → true ≡ total
unfolding all_from
all_end f k end total l so_far =
    let z : end - k ≡ 0 = omega arith in
    let one : all_from f k (end - k) ≡ true = rw z refl in
    sym one ∙ so_far

pub range_all : (old here : Bool) (first last n q : ℕ) → last + 1 ≤ n → n ≤ last + 1 → (old || ((nat_le first q && nat_lt q n) && here)) ≡ (old || ((nat_le first q && nat_le q last) && here))
range_all old here first last n q low high =
    let same : nat_lt q n ≡ nat_le q last = below q in
    rw same refl
  where
    below : (q : ℕ) → nat_lt q n ≡ nat_le q last
    below q =
        elim (cases_lt q n) [
          | inl l ↦ lt-ltb q n l ∙ sym (le-leb q last (omega (arith, l)))
          | inr g ↦ le-ltb q n g ∙ sym (lt-leb q last (omega (arith, g)))
        ]

pub range_none : (old here : Bool) (first last n q : ℕ) → last + 1 ≤ n → n ≡ first → (old || ((nat_le first q && nat_lt q n) && here)) ≡ (old || ((nat_le first q && nat_le q last) && here))
range_none old here first last n q low is =
    elim (cases_lt q first) [
      | inl l ↦ rw (lt-leb first q l) refl
      | inr g ↦ rw (le-ltb q n (omega (arith, is)), lt-leb q last (omega (arith, is))) refl
    ]

-- no port is of a device beyond the last one
pub whole_past : (old here : Bool) (ws : List ℕ) (q n : ℕ) → length ws ≡ 65 → 65 ≤ n → has_port ws q ≡ here → old ≡ (old || (q / 64 == n && here))
whole_past old here ws q n sized past is =
    elim (cases_eq (q / 64) n) [
      | inl e ↦
          let none : here ≡ false = sym is ∙ has_past ws q sized (omega (arith, e)) in
          rw none (sym (nothing old (q / 64 == n)))
      | inr other ↦ rw (ne_eqb (q / 64) n other) (sym (or_false old))
    ]
  where
    or_false : (b : Bool) → (b || false) ≡ b
    or_false true = refl
    or_false false = refl

    nothing : (b x : Bool) → (b || (x && false)) ≡ b
    nothing true x = refl
    nothing false true = refl
    nothing false false = refl

-- one more port of a range
abbrev pub within : (ℕ → Bool) → Bool → ℕ → ℕ → ℕ → Bool
within f old first n q = old || ((nat_le first q && nat_lt q n) && f q)

or_true : (b : Bool) → (b || true) ≡ true
or_true true = refl
or_true false = refl

pub within_yes : (f : ℕ → Bool) (old : Bool) (first n p q : ℕ) → first ≤ n → p ≡ n → f n ≡ true → (q == p || within f old first n q) ≡ within f old first (n + 1) q
within_yes f old first n p q low at is =
    elim (cases_eq q n) [
      | inl e ↦ rw (at, eq-eqb q n e, le-leb first q (omega (arith, e, low)), lt-ltb q (n + 1) (omega (arith, e)), ap f e ∙ is) (sym (or_true old))
      | inr other ↦ elim (cases_lt q n) [
        | inl l ↦ rw (at, ne_eqb q n other, lt-ltb q n l, lt-ltb q (n + 1) (omega (arith, l))) refl
        | inr g ↦ rw (at, ne_eqb q n other, le-ltb q n g, le-ltb q (n + 1) (omega arith)) refl
      ]
    ]

pub within_no : (f : ℕ → Bool) (old : Bool) (first n q : ℕ) → f n ≡ false → within f old first n q ≡ within f old first (n + 1) q
within_no f old first n q isnt =
    elim (cases_eq q n) [
      | inl e ↦ rw (ap f e ∙ isnt) (nothing (nat_le first q && nat_lt q n) (nat_le first q && nat_lt q (n + 1)))
      | inr other ↦ elim (cases_lt q n) [
        | inl l ↦ rw (lt-ltb q n l, lt-ltb q (n + 1) (omega (arith, l))) refl
        | inr g ↦ rw (le-ltb q n g, le-ltb q (n + 1) (omega arith)) refl
      ]
    ]
  where
    nothing : (x y : Bool) → (old || (x && false)) ≡ (old || (y && false))
    nothing true true = refl
    nothing true false = refl
    nothing false true = refl
    nothing false false = refl
