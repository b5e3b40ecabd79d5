use Rattle.std.proofs.Common.{refl}
use Rattle.std.proofs.lemmas.Bool.{ne_eqb}
use Rattle.exb_net.proofs.NetCalls.{none_passed, passed_so}
use Rattle.exb_net.proofs.QuietBridges.{all_marked}
use Rattle.exb_net.proofs.net.Net.tick.Goals as goal

pub pass_all-requires : goal.pass_all-requires
pass_all-requires g c = record { can = c.requires.can (ne_eqb c.args.seconds 0 c.if-seconds-eq0.false) }

pub returns-then-seconds-eq0-clause-ok : goal.returns-then-seconds-eq0-clause-ok
returns-then-seconds-eq0-clause-ok g c = λ n s told k. none_passed n s told c.args.self.now k c.args.seconds c.if-seconds-eq0.true

pub returns-in-Ok-clause-ok : goal.returns-in-Ok-clause-ok
returns-in-Ok-clause-ok g c = λ n s told k.
    (let some = ne_eqb c.args.seconds 0 c.if-seconds-eq0.false in passed_so n s told c.args.self.now k c.seconds_pass.ensures _ (record { queue = refl; wires = refl; came = refl }) c.args.seconds some (c.requires.can some) c.in-Ok.ensures.ok)

pub invariant_of-self : goal.invariant_of-self
invariant_of-self g c = record { quiet = all_marked c.all-self.result c.all-self.ensures c.pass_all.new.nodes.items }

pub invariant_of-self-in-Err : goal.invariant_of-self-in-Err
invariant_of-self-in-Err g c = record { quiet = all_marked c.all-self.result c.all-self.ensures c.pass_all.new.nodes.items }
