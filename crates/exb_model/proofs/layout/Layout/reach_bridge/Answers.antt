use Rattle.std.proofs.Common.{refl, arith}
use Rattle.exb_model.proofs.Validity.{below_devices}
use Rattle.exb_model.proofs.layout.Layout.reach_bridge.Goals as goal

pub returns : goal.returns
returns c = (
  λ _ n is. c.loop-number.invariant n (omega (arith, below_devices c.args.self.now n c.devices-number-end.ensures.sized is, c.loop-number-test.false)) is,
  λ _. refl,
)
