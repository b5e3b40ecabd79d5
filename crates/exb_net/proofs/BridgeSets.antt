-- Sets of bridges, by bits.
use Rattle.std.proofs.Common.{◌≡◌, ◌≢◌, ℕ, ◌+◌, ◌-◌, ◌*◌, ◌/◌, ◌%◌, ◌^◌, ◌<◌, ◌≤◌, bit_or, min, ap, sym, ◌∙◌, arith, inl, inr}
use Rattle.std.specs.Int.{bit_at, trailing_zeros, w64}
use Rattle.std.proofs.lemmas.Bool.{cases_eq}
use Rattle.std.proofs.lemmas.Nat.{shr-shr, shr_le}
use Rattle.std.proofs.lemmas.Nat.Bits.{bit_at-trailing_zeros, bit_at-zero, bit_at_ones, bit_at_or, bit_at_set_other, bit_at_set_same}
use Rattle.exb_net.specs.BridgeSets.{mark_of}

-- ---- one more, and all of two sets
pub with_one : (marks bridge k : ℕ) → k ≡ min bridge 63 → (b : ℕ) → mark_of (bit_or marks (1 * 2 ^ k % 2 ^ 64)) b ≡ 0 → (mark_of marks b ≡ 0) × (b ≢ bridge)
with_one marks bridge k is b none =
    elim (cases_eq (min b 63) k) [
      | inl e ↦
          let here : bit_at (bit_or marks (1 * 2 ^ k % 2 ^ 64)) (min b 63) ≡ 1 = ap (bit_at (bit_or marks (1 * 2 ^ k % 2 ^ 64))) e ∙ bit_at_set_same w64 marks k (omega (arith, is)) in
          absurd (omega (arith, here, none))
      | inr ne ↦ (sym (bit_at_set_other w64 marks k (omega (arith, is)) (min b 63) ne) ∙ none, λ same. ne (ap (λ (z : ℕ). min z 63) same ∙ sym is))
    ]

pub of_both : (marks others b : ℕ) → mark_of (bit_or marks others) b ≡ 0 → (mark_of marks b ≡ 0) × (mark_of others b ≡ 0)
of_both marks others b none = (let either = bit_at_or marks others (min b 63) in (omega (arith, either, none), omega (arith, either, none)))

-- ---- none and all
pub in_none : (b : ℕ) → mark_of 0 b ≡ 0
in_none b = bit_at-zero (min b 63)

pub in_all : (b : ℕ) → mark_of 18_446_744_073_709_551_615 b ≡ 1
in_all b = bit_at_ones 64 (min b 63) (omega arith)

-- ---- the first from one on
shifted_to : (marks k n : ℕ) → k ≤ n → bit_at marks n ≡ bit_at (marks / 2 ^ k) (n - k)
shifted_to marks k n high = let e : k + (n - k) ≡ n = omega arith in sym (rw e at (ap (λ (z : ℕ). z % 2) (shr-shr marks k (n - k))))

pub none_from : (marks from k : ℕ) → k ≡ min from 63 → marks / 2 ^ k ≡ 0 → (c : ℕ) → from ≤ c → mark_of marks c ≡ 0
none_from marks from k is none c high = shifted_to marks k (min c 63) (omega (arith, is, high)) ∙ rw none (bit_at-zero (min c 63 - k))

pub none_before : (marks from k b : ℕ) → k ≡ min from 63 → marks < 2 ^ 64 → 0 < marks / 2 ^ k → b ≤ from + trailing_zeros w64 (marks / 2 ^ k) → (c : ℕ) → from ≤ c → c < b → mark_of marks c ≡ 0
none_before marks from k b is fits some most c high before =
    let rest = marks / 2 ^ k in
    let less = shr_le marks k in
    let first = bit_at-trailing_zeros w64 rest some (omega (arith, less, fits)) in
    shifted_to marks k (min c 63) (omega (arith, is, high)) ∙ first.2 (min c 63 - k) (omega (arith, is, high, before, most))
