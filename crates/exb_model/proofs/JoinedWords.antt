-- The bits of two sets, joined word by word.
use Rattle.std.proofs.Common.{◌≡◌, ℕ, ◌+◌, ◌-◌, ◌/◌, ◌%◌, ◌^◌, ◌<◌, ◌≤◌, false, not, ◌&&◌, ◌==◌, List, length, get_or, set, min, replicate, refl, sym, ap, ◌∙◌, inl, inr, arith, bit_and, w64}
use Rattle.std.specs.Int.{bit_at, bit_not}
use Rattle.std.proofs.lemmas.Bool.{cases_lt, cases_eq}
use Rattle.std.proofs.lemmas.Bool.Decides.{nat_tests}
use Rattle.std.proofs.lemmas.List.{get_or_past, get_or-set_other}
use Rattle.std.proofs.lemmas.Grind.{get_or-set_at}
use Rattle.std.proofs.lemmas.Nat.{and_le_l}
use Rattle.std.proofs.lemmas.Nat.Bits.{bit_at_and, bit_at_not, bit_at-lt, bit_at-zero}
use Rattle.exb_model.specs.PortBits.{has_port}
use Rattle.exb_model.proofs.PortBits.{get_or-same}

both_ones : (a b : ℕ) → a < 2 → b < 2 → (min a b == 1) ≡ (a == 1 && b == 1)
both_ones a b low_a low_b = grind (arith, nat_tests)

other_one : (a : ℕ) → a < 2 → (1 - a == 1) ≡ not (a == 1)
other_one a low = grind (arith, nat_tests)

-- of the words that have been joined by f, those below i are done, and the rest are 0 still
pub record AreJoined (f : ℕ → ℕ → ℕ) (a b words : List ℕ) (i : ℕ) : Type 0 where
  pub done : (k : ℕ) → k < i → get_or words k 0 ≡ f (get_or a k 0) (get_or b k 0)
  pub rest : (k : ℕ) → i ≤ k → get_or words k 0 ≡ 0

pub joined_first : (f : ℕ → ℕ → ℕ) (a b : List ℕ) → AreJoined f a b (replicate 65 0) 0
joined_first f a b = record { done = λ k low. absurd (omega arith); rest = λ k low. get_or-same {X = ℕ} 65 k 0 }

pub joined_more : (f : ℕ → ℕ → ℕ) (a b words : List ℕ) (i : ℕ) → i < length words → AreJoined f a b words i →
    AreJoined f a b (set words i (f (get_or a i 0) (get_or b i 0))) (i + 1)
joined_more f a b words i within so =
    let new = f (get_or a i 0) (get_or b i 0) in
    record {
      done = λ k low.
          elim (cases_eq k i) [
            | inl e ↦ get_or-set_at words i k new 0 e within ∙ ap (λ (n : ℕ). f (get_or a n 0) (get_or b n 0)) (sym e)
            | inr e ↦ get_or-set_other words i k new 0 e ∙ so.done k (omega arith)
          ];
      rest = λ k low. get_or-set_other words i k new 0 (omega arith) ∙ so.rest k (omega arith);
    }

-- past the words of a set there is no port
pub none_past : (words : List ℕ) (q : ℕ) → get_or words (q / 64) 0 ≡ 0 → has_port words q ≡ false
unfolding has_port
none_past words q z = rw (z, bit_at-zero (q % 64)) refl

pub except_port : (a b words : List ℕ) (i : ℕ) → AreJoined (λ x y. bit_and x (bit_not w64 y)) a b words i → i ≡ 65 → length a ≡ 65 → ((n : ℕ) → get_or b n 0 < 2 ^ 64) → (q : ℕ) →
    has_port words q ≡ (has_port a q && not (has_port b q))
unfolding has_port
except_port a b words i so end sized fits q =
    elim (cases_lt (q / 64) 65) [
      | inl low ↦ at_word low
      | inr high ↦ none_past words q (so.rest (q / 64) (omega arith)) ∙ sym (rw (none_past a q (get_or_past a (q / 64) 0 (omega arith))) refl)
    ]
  where
    at_word : q / 64 < 65 → has_port words q ≡ (has_port a q && not (has_port b q))
    at_word low =
        let x = get_or a (q / 64) 0 in
        let y = get_or b (q / 64) 0 in
        let j = q % 64 in
        rw (so.done (q / 64) (omega arith), bit_at_and x (bit_not w64 y) j, bit_at_not w64 y j (fits (q / 64)) (omega arith))
        (both_ones (bit_at x j) (1 - bit_at y j) (bit_at-lt x j) (omega arith) ∙ ap (λ c. (bit_at x j == 1) && c) (other_one (bit_at y j) (bit_at-lt y j)))

-- joined words keep to 64 bits
pub joined_fits : (f : ℕ → ℕ → ℕ) (a b words : List ℕ) (i : ℕ) → ((x y : ℕ) → f x y ≤ x) → AreJoined f a b words i → i ≡ 65 → ((n : ℕ) → get_or a n 0 < 2 ^ 64) → (n : ℕ) → get_or words n 0 < 2 ^ 64
joined_fits f a b words i below so end fits n =
    elim (cases_lt n 65) [
      | inl low ↦ rw (so.done n (omega arith)) (omega (arith, below (get_or a n 0) (get_or b n 0), fits n))
      | inr high ↦ rw (so.rest n (omega arith)) (omega arith)
    ]

pub except_below : (x y : ℕ) → bit_and x (bit_not w64 y) ≤ x
except_below x y = and_le_l x (bit_not w64 y)
