use Rattle.exb_net_file.proofs.Nets.{wires_make_nets}
use Rattle.exb_net_file.proofs.laws.wires_make_nets.Goals as goal

pub returns : goal.returns
returns c = wires_make_nets
