use Rattle.exb_net_spec.proofs.InputOrder.{dues_are_here, dues_in_order}
use Rattle.exb_net_spec.proofs.laws.dues_are_in_order.Goals as goal

pub returns : goal.returns
returns c = λ n timely. (dues_are_here n, dues_in_order n timely)
