use Rattle.std.proofs.Common.{refl}
use Rattle.exb_net.proofs.NetCalls.{arrived_so, is_coming}
use Rattle.exb_net.proofs.QuietBridges.{all_marked, quiet_joined}
use Rattle.exb_net.proofs.net.Net.arrive.Goals as goal

pub play_arrival-requires-clause-can : goal.play_arrival-requires-clause-can
play_arrival-requires-clause-can g c =
    let x = c.args.self.now in
    let t = c.requires.opened c.if-self.false in
    (t.0, (t.1.0, (t.1.1.0, (is_coming t.0 t.1.0 t.1.1.0 x t.1.1.1.0 c.args.bridge c.args.arrival.now c.requires.few c.requires.here t.1.1.1.1 c.requires.can, t.1.1.1.0.wires))))

pub play_arrival-requires-clause-few : goal.play_arrival-requires-clause-few
play_arrival-requires-clause-few g c = c.requires.fates

pub returns-in-Ok-clause-ok : goal.returns-in-Ok-clause-ok
returns-in-Ok-clause-ok g c = λ n s told k free.
    let x = c.args.self.now in
    let a = c.args.arrival.now in
    arrived_so n s told x k c.args.bridge a _ refl refl (c.in-Ok.ensures.ok n s told (is_coming n s told x k c.args.bridge a c.requires.few c.requires.here free c.requires.can) k.wires)

pub invariant_of-self-in-Err : goal.invariant_of-self-in-Err
invariant_of-self-in-Err g c = record { quiet = all_marked c.all-self.result c.all-self.ensures c.play_arrival.new.nodes.items }

pub invariant_of-self : goal.invariant_of-self
invariant_of-self g c = record { quiet = quiet_joined c.args.self.now.touched c.in-Ok.touched c.join.new.self c.args.self.now.nodes.items c.play_arrival.new.nodes.items c.join.ensures c.in-Ok.ensures.others c.args.self.now.quiet }
