use Rattle.std.proofs.Common.{refl}
use Rattle.exb_model.proofs.PortBits.{has_port-empty, fits-zeros}
use Rattle.exb_model.proofs.port_set.PortSet.empty.Goals as goal

pub returns : goal.returns
returns c q = has_port-empty 65 q

pub invariant_of-result : goal.invariant_of-result
invariant_of-result c = record { fits = fits-zeros; sized = refl }
