use Rattle.std.proofs.Common.{refl, arith}
use Rattle.exb_model.proofs.Validity.{below_devices}
use Rattle.exb_model.proofs.layout.Layout.hang_alone.Goals as goal

pub returns : goal.returns
returns c = (
  λ _ n m lt a b. c.loop-number.invariant n m lt (omega (arith, below_devices c.args.self.now m c.devices-number-end.ensures.sized b, c.loop-number-test.false)) a b,
  λ _. refl,
)
