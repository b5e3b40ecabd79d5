use Rattle.std.proofs.Common.{refl}
use Rattle.exb_net.proofs.NetCalls.{cleared_so}
use Rattle.exb_net.proofs.QuietBridges.{all_quiet}
use Rattle.exb_net.proofs.net.Net.clear.Goals as goal

pub returns-clause-ok : goal.returns-clause-ok
returns-clause-ok g c = λ n s told k. cleared_so n s told c.args.self.now k _ (record { queue = refl; wires = refl; came = refl }) c.clear_all.ensures.forgotten

pub invariant_of-self : goal.invariant_of-self
invariant_of-self g c = record { quiet = all_quiet c.none-self.result c.args.self.now.nodes.items c.clear_all.new.nodes.items c.clear_all.ensures.forgotten }
