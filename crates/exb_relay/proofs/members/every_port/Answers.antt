use Rattle.std.proofs.Common.{ℕ, ◌/◌, ◌%◌, ◌<◌, slice_index, refl, inl, inr, arith}
use Rattle.std.specs.Prelude.{replicate}
use Rattle.std.proofs.lemmas.Bool.{cases_lt}
use Rattle.std.proofs.lemmas.List.{get_or-replicate, get_or_past, length-replicate}
use Rattle.std.proofs.lemmas.Nat.Bits.{bit_at_ones}
use Rattle.exb_model.specs.PortBits.{has_port}
use Rattle.exb_relay.proofs.members.every_port.Goals as goal

fits : (n : ℕ) → slice_index (replicate 65 18446744073709551615) n < 18446744073709551616
fits n =
    elim (cases_lt n 65) [
      | inl l ↦ let e = get_or-replicate {A = ℕ} 65 n 18446744073709551615 0 l in omega (arith, e)
      | inr g ↦
          let e = get_or_past {X = ℕ} (replicate 65 18446744073709551615) n 0 (omega (arith, g, length-replicate {A = ℕ} 65 18446744073709551615)) in
          omega (arith, e)
    ]

pub invariant_of-result : goal.invariant_of-result
invariant_of-result c = record { fits = fits; sized = refl }

pub returns : goal.returns
unfolding has_port
returns c q l =
    rw (get_or-replicate {A = ℕ} 65 (q / 64) 18446744073709551615 0 (omega (arith, l)), bit_at_ones 64 (q % 64) (omega arith)) refl
