-- Sets of numbers, by their bits.
use Rattle.std.proofs.Common.{◌≡◌, ◌≢◌, ◌⊎◌, ℕ, ◌+◌, ◌-◌, ◌*◌, ◌/◌, ◌%◌, ◌^◌, ◌<◌, ◌≤◌, ◌==◌, min, Bool, true, false, not, bit_and, bit_or, inl, inr, refl, ap, sym, ◌∙◌, arith, eq-eqb}
use Rattle.std.specs.Prelude.{if◌then◌else◌}
use Rattle.std.specs.Int.{bit_at, bit_not, trailing_zeros, w64}
use Rattle.std.proofs.lemmas.Bool.{cases_eq, cases_lt, ne_eqb, false≢true}
use Rattle.std.proofs.lemmas.Nat.{and_le_l, shr-shr, shr_le}
use Rattle.std.proofs.lemmas.Nat.Bits.{bit_at-zero, bit_at_and, bit_at-lt, bit_at_set_same, bit_at_set_other, bit_at_clear_same, bit_at_clear_other, bit_at_above, bit_at-trailing_zeros, same_from_bits, shr_and_one}
use Rattle.exb_model.specs.DeviceSets.{number_in, IsFirstIn, IsNumber}

-- ---- a number and its bit
bit_of : (bits n : ℕ) → n ≢ 0 → number_in bits n ≡ bit_at bits (n - 1)
unfolding number_in
bit_of bits n some = rw (ne_eqb n 0 some) refl

not_in : (bits n : ℕ) → n ≡ 0 → number_in bits n ≡ 0
unfolding number_in
not_in bits n none = rw none refl

bit_behind : (bits j : ℕ) → number_in bits (j + 1) ≡ bit_at bits j
bit_behind bits j = let e : j + 1 - 1 ≡ j = omega arith in bit_of bits (j + 1) (λ z. absurd (omega (arith, z))) ∙ ap (bit_at bits) e

pub none_in_0 : (n : ℕ) → number_in 0 n ≡ 0
none_in_0 n =
    elim (cases_eq n 0) [
      | inl e ↦ not_in 0 n e
      | inr some ↦ bit_of 0 n some ∙ bit_at-zero (n - 1)
    ]

-- ---- whether it is in
either_bit : (n : ℕ) → n < 2 → (n ≡ 0) ⊎ (n ≡ 1)
either_bit n low =
    elim (cases_eq n 0) [
      | inl e ↦ inl e
      | inr e ↦ inr (omega (arith, e))
    ]

no_one : (b : ℕ) → b < 2 → (b == 1) ≡ false → b ≡ 0
no_one b low e =
    elim (either_bit b low) [
      | inl is ↦ is
      | inr is ↦ absurd (false≢true (sym e ∙ eq-eqb b 1 is))
    ]

pub has_none : (bits n : ℕ) → IsNumber n → (bit_and (bits / 2 ^ (n - 1)) 1 == 1) ≡ false → number_in bits n ≡ 0
has_none bits n is e =
    bit_of bits n (λ z. absurd (omega (arith, z, is.0))) ∙ no_one (bit_at bits (n - 1)) (bit_at-lt bits (n - 1)) (ap (λ (b : ℕ). b == 1) (sym (shr_and_one bits (n - 1))) ∙ e)

pub none_has : (bits n : ℕ) → IsNumber n → number_in bits n ≡ 0 → (bit_and (bits / 2 ^ (n - 1)) 1 == 1) ≡ false
none_has bits n is none = ap (λ (b : ℕ). b == 1) (shr_and_one bits (n - 1) ∙ sym (bit_of bits n (λ z. absurd (omega (arith, z, is.0)))) ∙ none)

-- ---- one number
pub number_put : (bits m : ℕ) → IsNumber m → (n : ℕ) → number_in (bit_or bits (1 * 2 ^ (m - 1) % 2 ^ 64)) n ≡ (if n == m then 1 else number_in bits n)
number_put bits m is n =
    elim (cases_eq n m) [
      | inl e ↦ rw (e, eq-eqb m m refl) (bit_of more m some ∙ bit_at_set_same w64 bits (m - 1) low)
      | inr ne ↦ rw (ne_eqb n m ne) (elim (cases_eq n 0) [ inl e ↦ not_in more n e ∙ sym (not_in bits n e) | inr known ↦ bit_of more n known ∙ bit_at_set_other w64 bits (m - 1) low (n - 1) (λ same. ne (omega (arith, same, known, is.0))) ∙ sym (bit_of bits n known) ])
    ]
  where
    more : ℕ
    more = bit_or bits (1 * 2 ^ (m - 1) % 2 ^ 64)

    some : m ≢ 0
    some z = absurd (omega (arith, z, is.0))

    low : m - 1 < 64
    low = omega (arith, is.1)

bit_gone : (bits k : ℕ) → bits < 2 ^ 64 → k < 64 → (n : ℕ) → n ≢ k → bit_at (bit_and bits (bit_not w64 (1 * 2 ^ k % 2 ^ 64))) n ≡ bit_at bits n
bit_gone bits k fits low n other = elim (cases_lt n 64) [ inl l ↦ bit_at_clear_other w64 bits k low n l other | inr g ↦ past g ]
  where
    past : 64 ≤ n → bit_at (bit_and bits (bit_not w64 (1 * 2 ^ k % 2 ^ 64))) n ≡ bit_at bits n
    past g =
        let less = and_le_l bits (bit_not w64 (1 * 2 ^ k % 2 ^ 64)) in
        bit_at_above (bit_and bits (bit_not w64 (1 * 2 ^ k % 2 ^ 64))) 64 n (omega (arith, less, fits)) g ∙ sym (bit_at_above bits 64 n fits g)

pub number_gone : (bits m : ℕ) → bits < 2 ^ 64 → IsNumber m → (n : ℕ) → number_in (bit_and bits (bit_not w64 (1 * 2 ^ (m - 1) % 2 ^ 64))) n ≡ (if n == m then 0 else number_in bits n)
number_gone bits m fits is n =
    elim (cases_eq n m) [
      | inl e ↦ rw (e, eq-eqb m m refl) (bit_of less m some ∙ bit_at_clear_same w64 bits (m - 1) low)
      | inr ne ↦ rw (ne_eqb n m ne) (elim (cases_eq n 0) [ inl e ↦ not_in less n e ∙ sym (not_in bits n e) | inr known ↦ bit_of less n known ∙ bit_gone bits (m - 1) fits low (n - 1) (λ same. ne (omega (arith, same, known, is.0))) ∙ sym (bit_of bits n known) ])
    ]
  where
    less : ℕ
    less = bit_and bits (bit_not w64 (1 * 2 ^ (m - 1) % 2 ^ 64))

    some : m ≢ 0
    some z = absurd (omega (arith, z, is.0))

    low : m - 1 < 64
    low = omega (arith, is.1)

-- ---- the first number from one on
pub bit_shifted : (bits k i : ℕ) → bit_at (bits / 2 ^ k) i ≡ bit_at bits (k + i)
bit_shifted bits k i = ap (λ (n : ℕ). n % 2) (shr-shr bits k i)

shifted_to : (bits k n : ℕ) → k ≤ n → bit_at bits n ≡ bit_at (bits / 2 ^ k) (n - k)
shifted_to bits k n high = let e : k + (n - k) ≡ n = omega arith in sym (rw e at (bit_shifted bits k (n - k)))

pub none_from : (bits k : ℕ) → bits / 2 ^ k ≡ 0 → (n : ℕ) → k ≤ n → bit_at bits n ≡ 0
none_from bits k none n high = shifted_to bits k n high ∙ rw none (bit_at-zero (n - k))

-- where the bit of the first of them is the last, or one behind it
pub none_past : (bits from first : ℕ) → bits < 2 ^ 64 → first ≡ from - 1 → 63 < first → (n : ℕ) → from ≤ n → number_in bits n ≡ 0
none_past bits from first fits is past n high = bit_of bits n (λ z. absurd (omega (arith, z, is, past, high))) ∙ bit_at_above bits 64 (n - 1) fits (omega (arith, is, past, high))

pub no_number : (bits from first : ℕ) → first ≡ from - 1 → bits / 2 ^ first ≡ 0 → (n : ℕ) → from ≤ n → number_in bits n ≡ 0
no_number bits from first is none n high =
    elim (cases_eq n 0) [
      | inl e ↦ not_in bits n e
      | inr some ↦ bit_of bits n some ∙ none_from bits first none (n - 1) (omega (arith, is, high))
    ]

pub first_number : (bits from first : ℕ) → bits < 2 ^ 64 → first ≡ from - 1 → first ≤ 63 → 0 < bits / 2 ^ first → IsFirstIn bits from (first + trailing_zeros w64 (bits / 2 ^ first) + 1)
first_number bits from first fits is low some =
    let rest = bits / 2 ^ first in
    let less = shr_le bits first in
    let found = bit_at-trailing_zeros w64 rest some (omega (arith, less, fits)) in
    let k = first + trailing_zeros w64 rest in
    let here : bit_at bits k ≡ 1 = sym (bit_shifted bits first (trailing_zeros w64 rest)) ∙ found.1 in
    let small : k < 64 = within k here in
    record {
      low = omega (arith, small);
      start = omega (arith, is);
      here = bit_behind bits k ∙ here;
      before = λ j from before.
          elim (cases_eq j 0) [
            | inl e ↦ not_in bits j e
            | inr known ↦ bit_of bits j known ∙ shifted_to bits first (j - 1) (omega (arith, is, from)) ∙ found.2 (j - 1 - first) (omega (arith, is, from, known, before))
          ];
    }
  where
    within : (n : ℕ) → bit_at bits n ≡ 1 → n < 64
    within n here =
        elim (cases_lt n 64) [
          | inl l ↦ l
          | inr g ↦ let none = bit_at_above bits 64 n fits g in absurd (omega (arith, none, here))
        ]

-- ---- two sets
pub both_none : (b : Bool) → not b ≡ false → b ≡ true
both_none true e = refl
both_none false e = absurd cc

none_meets : (bits others : ℕ) → bit_and bits others ≡ 0 → (n : ℕ) → bit_at others n ≡ 1 → bit_at bits n ≡ 0
none_meets bits others none n there =
    let both : min (bit_at bits n) (bit_at others n) ≡ 0 = sym (bit_at_and bits others n) ∙ rw none (bit_at-zero n) in
    elim (either_bit (bit_at bits n) (bit_at-lt bits n)) [
      | inl e ↦ e
      | inr e ↦ absurd (clash (rw (e, there) at both))
    ]
  where
    clash : min 1 1 ≡ 0 → ⊥
    clash e = cc

meets_none : (bits others : ℕ) → ((n : ℕ) → bit_at others n ≡ 1 → bit_at bits n ≡ 0) → bit_and bits others ≡ 0
meets_none bits others apart = same_from_bits (bit_and bits others) 0 (λ n. bit_at_and bits others n ∙ (by_bit n ∙ sym (bit_at-zero n)))
  where
    by_bit : (n : ℕ) → min (bit_at bits n) (bit_at others n) ≡ 0
    by_bit n =
        elim (either_bit (bit_at others n) (bit_at-lt others n)) [
          | inl e ↦ rw e (omega arith)
          | inr e ↦ rw (apart n e) (omega arith)
        ]

pub no_number_meets : (bits others : ℕ) → bit_and bits others ≡ 0 → (n : ℕ) → number_in others n ≡ 1 → number_in bits n ≡ 0
no_number_meets bits others none n there =
    elim (cases_eq n 0) [
      | inl e ↦ not_in bits n e
      | inr some ↦ bit_of bits n some ∙ none_meets bits others none (n - 1) (sym (bit_of others n some) ∙ there)
    ]

pub numbers_apart : (bits others : ℕ) → ((n : ℕ) → number_in others n ≡ 1 → number_in bits n ≡ 0) → bit_and bits others ≡ 0
numbers_apart bits others apart = meets_none bits others (λ j there. sym (bit_behind bits j) ∙ apart (j + 1) (bit_behind others j ∙ there))
