use Rattle.std.proofs.Common.{ℕ, subst}
use Rattle.std.proofs.lemmas.Result.{on_ok_weaker}
use Rattle.exb_extender.specs.SentFrames.{out_sent}
use Rattle.exb_world_spec.specs.Effects.{each}
use Rattle.exb_world_spec.specs.ExtenderSteps.{sends}
use Rattle.exb_world.specs.ExtenderEgress.{row_sent}
use Rattle.exb_outbox.specs.PortMaps.{Row, ports_in}
use Rattle.exb_bridge.specs.BridgeWorlds.{world_in, Does}
use Rattle.exb_world.specs.MachineWorlds.{whole_of}
use Rattle.exb_world.proofs.ExtenderEgress.{went_behind}
use Rattle.exb_world.proofs.extender_sends.send_behind.Goals as goal

pub returns-clause-sent : goal.returns-clause-sent
returns-clause-sent c =
    let s = c.args.site.now in
    let t = s.tree in
    let stamp = c.args.came.now.stamp in
    let f = c.args.came.now.frame.now in
    let out = c.args.out.now in
    let row = c.args.row.now in
    let core = (whole_of c.args.core.now) in
    let w = world_in core in
    let before = c.args.post.now.log in
    let told = c.leave_extender.new.post.log in
    let same = c.joins.ensures.other c.if-joins.false in
    let at_row = subst (λ (r : Row). Does (each (sends t c.device-number.result stamp) (row_sent f (ports_in r)) w) s core before told) same c.in_ok-leave_extender.ensures in
    let first = subst (λ (n : ℕ). Does (each (sends t n stamp) (row_sent f (ports_in row)) w) s core before told) c.device-number.ensures.value at_row in
    on_ok_weaker c.send_frame.result
    (λ done.
    went_behind s stamp f out row c.none.result core core (whole_of c.send_frame.new.core) before told c.send_frame.new.post.log c.none.ensures.ports first
    (subst (λ (n : ℕ). Does (sends t n stamp (out_sent f out) w) s (whole_of c.send_frame.new.core) told c.send_frame.new.post.log) c.device-number.ensures.value done))
    c.send_frame.ensures
