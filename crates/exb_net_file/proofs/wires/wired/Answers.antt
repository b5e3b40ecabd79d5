use Rattle.exb_net_file.proofs.Nets.{makes_nets}
use Rattle.exb_net_file.proofs.wires.wired.Goals as goal

pub returns-clause-net : goal.returns-clause-net
returns-clause-net c = makes_nets c.args.members.now c.args.wires.now c.checked.result c.requires.valid c.checked.ensures
