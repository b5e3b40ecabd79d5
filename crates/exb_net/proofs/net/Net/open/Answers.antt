use Rattle.std.proofs.Common.{refl}
use Rattle.exb_net.proofs.NetCalls.{opened_so}
use Rattle.exb_net.proofs.QuietBridges.{all_marked}
use Rattle.exb_net.proofs.net.Net.open.Goals as goal

pub open_all-requires : goal.open_all-requires
open_all-requires g c = record { few = c.requires.few }

pub returns-in-Ok-clause-ok : goal.returns-in-Ok-clause-ok
returns-in-Ok-clause-ok g c = λ n k. opened_so n c.args.self.now _ k c.in-Ok.ensures.ok c.opened_nets_run.ensures (record { queue = refl; wires = refl; came = refl })

pub invariant_of-self : goal.invariant_of-self
invariant_of-self g c = record { quiet = all_marked c.all-self.result c.all-self.ensures c.open_all.new.nodes.items }

pub invariant_of-self-in-Err : goal.invariant_of-self-in-Err
invariant_of-self-in-Err g c = record { quiet = all_marked c.all-self.result c.all-self.ensures c.open_all.new.nodes.items }
