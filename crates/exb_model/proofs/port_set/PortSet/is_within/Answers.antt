use Rattle.std.proofs.Common.{refl, arith}
use Rattle.std.proofs.lemmas.Bool.{false≢true}
use Rattle.exb_model.proofs.Validity.{set_within, word_of_set}
use Rattle.exb_model.proofs.port_set.PortSet.is_within.Goals as goal

pub returns-then-self-device : goal.returns-then-self-device
returns-then-self-device c = (
  λ f. absurd (false≢true f),
  λ all. absurd (c.if-self-device.true (word_of_set c.args.self.now.words c.args.wider.now.words c.loop-device.device (c.args.self.now.fits c.loop-device.device) all)),
)

pub returns : goal.returns
returns c = (
  λ _. set_within c.args.self.now.words c.args.wider.now.words c.args.self.now.sized (λ n lt. c.loop-device.invariant n (omega (arith, c.loop-device-test.false))),
  λ _. refl,
)
