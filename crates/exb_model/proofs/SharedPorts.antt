-- Sets of ports word by word.
use Rattle.std.proofs.Common.{◌≡◌, ℕ, zero, suc, ◌/◌, ◌%◌, ◌^◌, ◌<◌, ◌==◌, ◌&&◌, List, length, slice_index, refl, inl, inr, arith, bit_and}
use Rattle.std.specs.Prelude.{min}
use Rattle.std.specs.Int.{bit_at}
use Rattle.std.proofs.lemmas.Bool.{cases_lt}
use Rattle.std.proofs.lemmas.List.{get_or_past}
use Rattle.std.proofs.lemmas.Nat.{and_le_l}
use Rattle.std.proofs.lemmas.Nat.Bits.{bit_at_and, bit_at-lt, bit_at-zero}
use Rattle.exb_model.specs.PortBits.{has_port}

both_bits : (x y : ℕ) → x < 2 → y < 2 → (min x y == 1) ≡ (x == 1 && y == 1)
both_bits zero y h k = let e : min zero y ≡ zero = omega arith in rw e refl
both_bits (suc zero) zero h k = refl
both_bits (suc zero) (suc zero) h k = refl
both_bits (suc zero) (suc (suc y)) h k = absurd (omega arith)
both_bits (suc (suc x)) y h k = absurd (omega arith)

-- the words that two sets share have just the ports of both
pub has_port-both : (a b c : List ℕ) → length a ≡ 65 → length c ≡ 65 → ((n : ℕ) → n < 65 → slice_index c n ≡ bit_and (slice_index a n) (slice_index b n)) →
    (q : ℕ) → has_port c q ≡ (has_port a q && has_port b q)
unfolding has_port
has_port-both a b c as_long sized shared q =
    elim (cases_lt (q / 64) 65) [
      | inl l ↦
          rw (shared (q / 64) l, bit_at_and (slice_index a (q / 64)) (slice_index b (q / 64)) (q % 64))
          (both_bits (bit_at (slice_index a (q / 64)) (q % 64)) (bit_at (slice_index b (q / 64)) (q % 64)) (bit_at-lt _ _) (bit_at-lt _ _))
      | inr h ↦
          rw (get_or_past c (q / 64) 0 (omega arith), get_or_past a (q / 64) 0 (omega arith), bit_at-zero (q % 64)) refl
    ]

-- and keep to 64 bits
pub fits-both : (a b c : List ℕ) → length c ≡ 65 → ((n : ℕ) → slice_index a n < 2 ^ 64) →
    ((n : ℕ) → n < 65 → slice_index c n ≡ bit_and (slice_index a n) (slice_index b n)) → (n : ℕ) → slice_index c n < 2 ^ 64
fits-both a b c sized fits shared n =
    elim (cases_lt n 65) [
      | inl l ↦ let low = and_le_l (slice_index a n) (slice_index b n) in let e = shared n l in omega (arith, fits n)
      | inr h ↦ let e : slice_index c n ≡ 0 = get_or_past c n 0 (omega arith) in omega arith
    ]
