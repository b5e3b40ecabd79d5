-- Bits in a list of words.
use Rattle.std.proofs.Common.{◌≡◌, ℕ, ◌+◌, ◌*◌, ◌/◌, ◌%◌, ◌^◌, ◌<◌, false, not, ◌&&◌, ◌||◌, ◌==◌, List, length, slice_index, get_or, set, replicate, refl, ap, inl, inr, arith, bit_and, bit_or, w64, eq-eqb}
use Rattle.std.specs.Int.{bit_at, bit_not}
use Rattle.exb_model.specs.PortBits.{has_port}
use Rattle.std.proofs.lemmas.Bool.{cases_eq, cases_lt, ne_eqb}
use Rattle.std.proofs.lemmas.List.{set_past, get_or-set_other, get_or-set_same, get_or-replicate, get_or_past, length-replicate}
use Rattle.std.proofs.lemmas.Grind.{get_or-set_at}
use Rattle.std.proofs.lemmas.Nat.{or_lt, mod_below}
use Rattle.std.proofs.lemmas.Bool.Decides.{nat_tests}
use Rattle.std.proofs.lemmas.Nat.Bits.{bit_at_set_same, bit_at_set_other, bit_at_clear_same, bit_at_clear_other, same_from_bits_below, bit_at-lt, bit_at-zero}

pub has_port-insert : (ws : List ℕ) (p q : ℕ) → p / 64 < length ws →
    has_port (set ws (p / 64) (bit_or (get_or ws (p / 64) 0) (1 * 2 ^ (p % 64) % 2 ^ 64))) q ≡ (q == p || has_port ws q)
unfolding has_port
has_port-insert ws p q h =
    elim (cases_eq (q / 64) (p / 64)) [
      | inl same_word ↦ elim (cases_eq (q % 64) (p % 64)) [
        | inl same_bit ↦ let e : q ≡ p = omega arith in
            rw (e, get_or-set_same ws (p / 64) (bit_or (get_or ws (p / 64) 0) (1 * 2 ^ (p % 64) % 2 ^ 64)) 0 h, bit_at_set_same w64 (get_or ws (p / 64) 0) (p % 64) (omega arith), eq-eqb p p refl) refl
        | inr other_bit ↦ let n : q ≡ p → ⊥ = λ e. other_bit (ap (λ x. x % 64) e) in
            rw (same_word, get_or-set_same ws (p / 64) (bit_or (get_or ws (p / 64) 0) (1 * 2 ^ (p % 64) % 2 ^ 64)) 0 h, bit_at_set_other w64 (get_or ws (p / 64) 0) (p % 64) (omega arith) (q % 64) other_bit, ne_eqb q p n) refl
      ]
      | inr other_word ↦ let n : q ≡ p → ⊥ = λ e. other_word (ap (λ x. x / 64) e) in
          rw (get_or-set_other ws (p / 64) (q / 64) (bit_or (get_or ws (p / 64) 0) (1 * 2 ^ (p % 64) % 2 ^ 64)) 0 other_word, ne_eqb q p n) refl
    ]

pub has_port-remove : (ws : List ℕ) (p q : ℕ) → p / 64 < length ws →
    has_port (set ws (p / 64) (bit_and (get_or ws (p / 64) 0) (bit_not w64 (1 * 2 ^ (p % 64) % 2 ^ 64)))) q ≡ (not (q == p) && has_port ws q)
unfolding has_port
has_port-remove ws p q h =
    let new = bit_and (get_or ws (p / 64) 0) (bit_not w64 (1 * 2 ^ (p % 64) % 2 ^ 64)) in
    elim (cases_eq (q / 64) (p / 64)) [
      | inl same_word ↦ elim (cases_eq (q % 64) (p % 64)) [
        | inl same_bit ↦ let e : q ≡ p = omega arith in
            rw (e, get_or-set_same ws (p / 64) new 0 h, bit_at_clear_same w64 (get_or ws (p / 64) 0) (p % 64) (omega arith), eq-eqb p p refl) refl
        | inr other_bit ↦ let n : q ≡ p → ⊥ = λ e. other_bit (ap (λ x. x % 64) e) in
            rw (same_word, get_or-set_same ws (p / 64) new 0 h, bit_at_clear_other w64 (get_or ws (p / 64) 0) (p % 64) (omega arith) (q % 64) (omega arith) other_bit, ne_eqb q p n) refl
      ]
      | inr other_word ↦ let n : q ≡ p → ⊥ = λ e. other_word (ap (λ x. x / 64) e) in
          rw (get_or-set_other ws (p / 64) (q / 64) new 0 other_word, ne_eqb q p n) refl
    ]

pub get_or-same : {X : Type 0} (n i : ℕ) (z : X) → get_or (replicate n z) i z ≡ z
get_or-same n i z =
    elim (cases_lt i n) [
      | inl h ↦ get_or-replicate n i z z h
      | inr h ↦ get_or_past (replicate n z) i z (rw length-replicate h)
    ]

pub has_port-empty : (n q : ℕ) → has_port (replicate n 0) q ≡ false
unfolding has_port
has_port-empty n q = rw (get_or-same {X = ℕ} n (q / 64) 0, bit_at-zero (q % 64)) refl

-- numbers below 2 with the same test are one
pub same_test : (a b : ℕ) → a < 2 → b < 2 → (a == 1) ≡ (b == 1) → a ≡ b
same_test a b low_a low_b same = grind (arith, nat_tests)

-- a word is told by its bits
pub same_word : (a b : List ℕ) (n k : ℕ) → k < n → get_or a k 0 < 2 ^ 64 → get_or b k 0 < 2 ^ 64 → ((q : ℕ) → q < 64 * n → has_port a q ≡ has_port b q) → get_or a k 0 ≡ get_or b k 0
unfolding has_port
same_word a b n k h low_a low_b same = same_from_bits_below 64 (get_or a k 0) (get_or b k 0) low_a low_b one_bit
  where
    one_bit : (i : ℕ) → i < 64 → bit_at (get_or a k 0) i ≡ bit_at (get_or b k 0) i
    one_bit i j =
        let word : (64 * k + i) / 64 ≡ k = omega arith in
        let bit : (64 * k + i) % 64 ≡ i = omega arith in
        let at : has_port a (64 * k + i) ≡ has_port b (64 * k + i) = same (64 * k + i) (omega arith) in
        same_test (bit_at (get_or a k 0) i) (bit_at (get_or b k 0) i) (bit_at-lt (get_or a k 0) i) (bit_at-lt (get_or b k 0) i) (rw (word, bit) at at)

-- words keep to 64 bits
pub fits-zeros : (n : ℕ) → slice_index (replicate 65 0) n < 2 ^ 64
fits-zeros n = let e : slice_index (replicate 65 0) n ≡ 0 = get_or-same {X = ℕ} 65 n 0 in omega arith

fits-set : (xs : List ℕ) (i y : ℕ) → y < 2 ^ 64 → ((n : ℕ) → slice_index xs n < 2 ^ 64) → (n : ℕ) → slice_index (set xs i y) n < 2 ^ 64
fits-set xs i y h all n =
    elim (cases_lt i (length xs)) [
      | inl l ↦ elim (cases_eq n i) [ inl e ↦ rw (get_or-set_at xs i n y 0 e l) h | inr e ↦ rw (get_or-set_other xs i n y 0 e) (all n) ]
      | inr g ↦ rw (set_past xs i y g) (all n)
    ]

pub fits-insert : (xs : List ℕ) (i k : ℕ) → ((n : ℕ) → slice_index xs n < 2 ^ 64) → (n : ℕ) →
    slice_index (set xs i (bit_or (get_or xs i 0) (1 * 2 ^ k % 2 ^ 64))) n < 2 ^ 64
fits-insert xs i k all =
    fits-set xs i (bit_or (get_or xs i 0) (1 * 2 ^ k % 2 ^ 64)) (or_lt 64 (get_or xs i 0) (1 * 2 ^ k % 2 ^ 64) (all i) (mod_below (1 * 2 ^ k) (2 ^ 64) (omega arith))) all

-- one word of a set alone
pub has_port-of_device : (n : ℕ) (ws : List ℕ) (d q : ℕ) → d < n → has_port (set (replicate n 0) d (slice_index ws d)) q ≡ (q / 64 == d && has_port ws q)
unfolding has_port
has_port-of_device n ws d q low =
    elim (cases_eq (q / 64) d) [
      | inl e ↦ rw (e, eq-eqb d d refl, get_or-set_same (replicate n 0) d (slice_index ws d) 0 (rw length-replicate low)) refl
      | inr other ↦ rw (ne_eqb (q / 64) d other, get_or-set_other (replicate n 0) d (q / 64) (slice_index ws d) 0 other, get_or-same {X = ℕ} n (q / 64) 0, bit_at-zero (q % 64)) refl
    ]

pub fits-of_device : (ws : List ℕ) (d : ℕ) → ((n : ℕ) → slice_index ws n < 2 ^ 64) → (n : ℕ) → slice_index (set (replicate 65 0) d (slice_index ws d)) n < 2 ^ 64
fits-of_device ws d all = fits-set (replicate 65 0) d (slice_index ws d) (all d) fits-zeros
