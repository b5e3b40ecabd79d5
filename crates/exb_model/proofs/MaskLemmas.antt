-- Numbers by their bits.
use Rattle.std.proofs.Common.{◌≡◌, ℕ, zero, suc, ◌+◌, ◌-◌, ◌*◌, ◌/◌, ◌%◌, ◌<◌, ◌^◌, ◌==◌, cond, Bool, true, false, List, slice_index, refl, sym, ◌∙◌, ap, arith, inl, inr, add-zero, pow-suc}
use Rattle.std.specs.Int.{bit_at}
use Rattle.std.proofs.lemmas.Bool.{cases_eq, cases_Bool, ne_eqb}
use Rattle.std.proofs.lemmas.Nat.Bits.{bit_at_cat_low, bit_at_cat_high, bit_at_above, bit_at-lt, same_from_bits_below}
use Rattle.exb_model.specs.Masks.{bits_of}
use Rattle.exb_model.specs.PortBits.{has_port}

pub bit : Bool → ℕ
bit b = cond b 1 0

pub bits_of-lt : (test : ℕ → Bool) (n : ℕ) → bits_of test n < 2 ^ n
unfolding bits_of
bits_of-lt test zero = omega arith
bits_of-lt test (suc n) =
    let below = bits_of-lt test n in
    elim (cases_Bool (test n)) [
      | inl e ↦ rw (e, pow-suc) (omega (arith, below))
      | inr e ↦ rw (e, pow-suc) (omega (arith, below))
    ]

pub bit_at-bits_of : (test : ℕ → Bool) (n i : ℕ) → i < n → bit_at (bits_of test n) i ≡ bit (test i)
unfolding bits_of bit
bit_at-bits_of test zero i h = absurd (omega arith)
bit_at-bits_of test (suc n) i h =
    let below = bits_of-lt test n in
    elim (cases_Bool (test n)) [
      | inl e ↦
          let turned : bits_of test n + 2 ^ n ≡ 1 * 2 ^ n + bits_of test n = omega arith in
          rw (e, turned) (
          elim (cases_eq i n) [
            | inl f ↦
                let none : n - n ≡ 0 = omega arith in
                rw (f, bit_at_cat_high 1 n (bits_of test n) n below (omega arith), none, e) refl
            | inr f ↦ bit_at_cat_low 1 n (bits_of test n) i (omega arith) ∙ bit_at-bits_of test n i (omega arith)
          ])
      | inr e ↦
          rw (e, add-zero) (
          elim (cases_eq i n) [
            | inl f ↦ rw (f, bit_at_above (bits_of test n) n n below (omega arith), e) refl
            | inr f ↦ bit_at-bits_of test n i (omega arith)
          ])
    ]

pub bit_is_one : (b : Bool) → (bit b == 1) ≡ b
unfolding bit
bit_is_one true = refl
bit_is_one false = refl

pub one_of_two : (n : ℕ) → n < 2 → n ≡ bit (n == 1)
unfolding bit
one_of_two n h =
    elim (cases_eq n 1) [
      | inl e ↦ rw e refl
      | inr e ↦ rw (ne_eqb n 1 e) (omega arith)
    ]

-- a word of a set of ports
pub word_is : (words : List ℕ) (test : ℕ → Bool) (n : ℕ) → slice_index words n < 2 ^ 64 → ((p : ℕ) → has_port words p ≡ test p) →
    slice_index words n ≡ bits_of (λ j. test (64 * n + j)) 64
unfolding has_port
word_is words test n low same =
    let rest : ℕ → Bool = λ j. test (64 * n + j) in
    same_from_bits_below 64 (slice_index words n) (bits_of rest 64) low (bits_of-lt rest 64) (λ i h.
    let q : (64 * n + i) / 64 ≡ n = omega arith in
    let r : (64 * n + i) % 64 ≡ i = omega arith in
    let here : (bit_at (slice_index words n) i == 1) ≡ rest i = rw (q, r) at (same (64 * n + i)) in
    one_of_two (bit_at (slice_index words n) i) (bit_at-lt (slice_index words n) i) ∙ (ap bit here ∙ sym (bit_at-bits_of rest 64 i h)))

-- masks of the same ports
pub bits_of-same : (f g : ℕ → Bool) (n : ℕ) → ((p : ℕ) → f p ≡ g p) → bits_of f n ≡ bits_of g n
unfolding bits_of
bits_of-same f g zero same = refl
bits_of-same f g (suc n) same = rw (bits_of-same f g n same, same n) refl
