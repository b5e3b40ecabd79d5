use Rattle.std.proofs.Common.{arith}
use Rattle.exb_model.proofs.PortBits.{has_port-remove}
use Rattle.exb_model.proofs.port_set.PortSet.remove.Goals as goal

pub returns : goal.returns
returns c q = rw (c.device.ensures.value, c.place.ensures.value) (has_port-remove c.args.self.now.words c.args.port q (omega arith))
