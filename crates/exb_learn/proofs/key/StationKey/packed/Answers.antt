use Rattle.std.proofs.Common.{◌∙◌, ap, arith}
use Rattle.std.specs.Prelude.{ℕ}
use Rattle.std.specs.Int.{w64, from_le_bytes}
use Rattle.exb_learn.specs.Keys.{bytes_of, packed}
use Rattle.exb_learn.proofs.key.StationKey.packed.Goals as goal

pub returns-clause-number : goal.returns-clause-number
unfolding packed
returns-clause-number c = c.pack.ensures.number ∙ ap (λ (v : ℕ). from_le_bytes w64 (bytes_of v c.args.self.now.address.0)) c.number.ensures.value

pub returns-clause-spelled : goal.returns-clause-spelled
returns-clause-spelled c = (let range = c.number.ensures.range in record { vid = omega (arith, range); long = c.pack.ensures.long; bytes = c.pack.ensures.bytes })
