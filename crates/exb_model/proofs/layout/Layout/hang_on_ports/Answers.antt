use Rattle.std.proofs.Common.{refl, arith}
use Rattle.exb_model.proofs.Validity.{below_devices}
use Rattle.exb_model.proofs.layout.Layout.hang_on_ports.Goals as goal

pub returns-clause-on_ports : goal.returns-clause-on_ports
returns-clause-on_ports c = (
  λ _ n is. c.loop-number.invariant n (omega (arith, below_devices c.args.self.now n c.devices-number-end.ensures.sized is, c.loop-number-test.false)) is,
  λ _. refl,
)
