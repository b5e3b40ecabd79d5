use Rattle.exb_inputs.proofs.UniqueNetRefusal.{net_good_not, capture_once, first_of_net, net_held_not, net_refused_once}
use Rattle.exb_inputs.proofs.net_laws.nets_have_one_cause.Goals as goal

pub returns : goal.returns
returns c = record { once = net_refused_once; held = net_held_not; capture = capture_once; first = first_of_net; good = net_good_not }
