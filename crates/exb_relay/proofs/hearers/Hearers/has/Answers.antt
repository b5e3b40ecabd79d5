use Rattle.std.proofs.Common.{◌≡◌, ◌∙◌, ℕ, ◌+◌, ◌*◌, ◌/◌, ◌%◌, ◌==◌, ap, arith}
use Rattle.std.proofs.lemmas.Nat.Bits.{shr_and_one}
use Rattle.exb_model.specs.Masks.{bits_of}
use Rattle.exb_model.proofs.MaskLemmas.{bit_at-bits_of, bit_is_one}
use Rattle.exb_relay.specs.SendsBySource.{is_hearer}
use Rattle.exb_relay.proofs.hearers.Hearers.has.Goals as goal

pub returns : goal.returns
returns c =
    let p = c.args.port in
    let test = is_hearer c.args.self.now c.args.kind in
    let back : 64 * (p / 64) + p % 64 ≡ p = omega arith in
    rw (c.mask.ensures, c.device.ensures.value, c.place.ensures.value, shr_and_one (bits_of (λ j. test (64 * (p / 64) + j)) 64) (p % 64))
    (ap (λ (n : ℕ). n == 1) (bit_at-bits_of (λ j. test (64 * (p / 64) + j)) 64 (p % 64) (omega arith)) ∙ bit_is_one (test (64 * (p / 64) + p % 64)) ∙ ap test back)
