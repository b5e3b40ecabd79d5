use Rattle.std.proofs.Common.{ℕ, map, subst, ◌∙◌}
use Rattle.std.proofs.lemmas.Result.{on_ok_weaker}
use Rattle.exb_extender.specs.declared.sends.Form.TheVariants.{AsIs}
use Rattle.exb_extender.specs.declared.sends.Side.TheVariants.{Up}
use Rattle.exb_extender.specs.SentFrames.{out_sent}
use Rattle.exb_world_spec.specs.Effects.{each}
use Rattle.exb_world_spec.specs.ExtenderSteps.{sends}
use Rattle.exb_world.specs.ExtenderEgress.{AreOuter}
use Rattle.exb_outbox.specs.PortMaps.{ports_in}
use Rattle.exb_bridge.specs.BridgeWorlds.{world_in}
use Rattle.exb_world.specs.MachineWorlds.{whole_of}
use Rattle.exb_world.proofs.ExtenderEgress.{behind_last, behind_next}
use Rattle.exb_world.proofs.extender_sends.send_frames.Goals as goal

pub loop-out-preserved : goal.loop-out-preserved
loop-out-preserved c =
    let s = c.args.site.now in
    let n = c.args.number in
    let stamp = c.args.came.now.stamp in
    let f = c.args.came.now.frame.now in
    let outs = c.args.outs.now in
    let inv = c.loop-out.invariant in
    let step = c.in_ok-send_behind.ensures in
    record {
      leads = behind_next s n stamp f outs c.loop-out.out-index (record { to = Up; form = AsIs }) c.loop-out.row c.send_behind.new.row (whole_of c.loop-out.core) (whole_of c.send_behind.new.core)
          (each (sends s.tree n stamp) (map (out_sent f) outs) (world_in (whole_of c.args.core.now))) c.args.post.now.log c.loop-out.post.log c.send_behind.new.post.log
          c.loop-out-test.true inv.device step.sent inv.leads;
      at = step.sent.at;
      device = step.device ∙ inv.device;
      outer = subst (λ (m : ℕ). AreOuter s.tree m f (ports_in c.send_behind.new.row)) inv.device step.outer;
    }

pub returns : goal.returns
returns c =
    let s = c.args.site.now in
    let n = c.args.number in
    let stamp = c.args.came.now.stamp in
    let f = c.args.came.now.frame.now in
    let outs = c.args.outs.now in
    on_ok_weaker c.leave_extender.result
    (behind_last s n stamp f outs c.loop-out.out-index c.loop-out.row (whole_of c.loop-out.core) (each (sends s.tree n stamp) (map (out_sent f) outs) (world_in (whole_of c.args.core.now))) c.args.post.now.log c.loop-out.post.log c.leave_extender.new.post.log
    c.loop-out-test.false c.loop-out.invariant.leads)
    c.leave_extender.ensures
