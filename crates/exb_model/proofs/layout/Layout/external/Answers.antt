use Rattle.std.proofs.Common.{arith, ◌∙◌}
use Rattle.exb_model.proofs.Validity.{external_below}
use Rattle.exb_model.proofs.layout.Layout.external.Goals as goal

pub returns : goal.returns
returns c q = c.loop-number.invariant q ∙ external_below c.args.self.now c.loop-number.number q c.devices-number-end.ensures.sized (omega (arith, c.loop-number.auto.number-end, c.loop-number-test.false, c.devices-number-end.ensures.value))
