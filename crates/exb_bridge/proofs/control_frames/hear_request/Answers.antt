use Rattle.std.proofs.Common.{Result, sym, subst, ◌∙◌}
use Rattle.std.proofs.lemmas.Result.{on_ok_weaker}
use Rattle.exb_csp.specs.declared.fault.CspFault.{CspFault}
use Rattle.exb_csp.specs.declared.message.Message.{Message}
use Rattle.exb_world_spec.specs.ControlFrames.{hears_message}
use Rattle.exb_bridge.specs.TreeIndexes.{limits_in}
use Rattle.exb_bridge.specs.BridgeWorlds.{whole, world_in, Does}
use Rattle.exb_bridge.proofs.ControlFrames.{still_asks, stale_on, fresh_on}
use Rattle.exb_bridge.proofs.PartChanges.{near_at, does_nothing}
use Rattle.exb_bridge.proofs.control_frames.hear_request.Goals as goal

pub returns-then-not-received : goal.returns-then-not-received
returns-then-not-received g c =
    let s = c.args.site.now in
    let mid = (whole g.rest c.send_to_extender.new.bridge) in
    let spelled = c.as_slice-frame.ensures.value ∙ c.spell_acknowledgement.ensures.bytes in
    stale_on s.tree (limits_in s) c.args.number c.args.sequence c.args.payload.now c.as_slice-frame.result.now s (whole g.rest c.args.bridge.now) mid c.received.new.self c.args.room.now.post.log c.send_to_extender.new.post.log spelled
    c.in_ok-send_to_extender.ensures c.received.ensures.state (sym c.received.ensures.fresh ∙ c.if-not-received.true)

pub hear_message-requires : goal.hear_message-requires
hear_message-requires g c =
    let s = c.args.site.now in
    let mid = whole g.rest c.send_to_extender.new.bridge in
    let sent = c.in_ok-send_to_extender.ensures in (
      near_at s mid sent.at c.received.new.self,
      (c.requires.1.0, still_asks s.tree (limits_in s) c.args.number c.as_slice-frame.result.now s (whole g.rest c.args.bridge.now) mid c.args.room.now.post.log c.send_to_extender.new.post.log sent c.requires.1.1),
    )

pub returns-in-Ok : goal.returns-in-Ok
returns-in-Ok g c =
    let s = c.args.site.now in
    let n = c.args.number in
    let mid = (whole g.rest c.send_to_extender.new.bridge) in
    let heard = record mid { near = c.received.new.self } in
    let spelled = c.as_slice-frame.ensures.value ∙ c.spell_acknowledgement.ensures.bytes in
    on_ok_weaker c.hear_message.result (λ done.
    fresh_on s.tree (limits_in s) n c.args.sequence c.args.payload.now c.as_slice-frame.result.now s (whole g.rest c.args.bridge.now) mid (whole g.rest c.hear_message.new.bridge) c.received.new.self c.args.room.now.post.log c.send_to_extender.new.post.log c.hear_message.new.room.post.log
    spelled c.in_ok-send_to_extender.ensures c.received.ensures.state (sym c.received.ensures.fresh ∙ c.if-not-received.false)
    (subst (λ (r : Result Message CspFault). Does (hears_message s.tree (limits_in s) n r (world_in heard)) s (whole g.rest c.hear_message.new.bridge) c.send_to_extender.new.post.log c.hear_message.new.room.post.log)
    (sym c.in-Ok.is ∙ c.read.ensures.exact) done)) c.hear_message.ensures

pub returns-in-Err : goal.returns-in-Err
returns-in-Err g c =
    let s = c.args.site.now in
    let n = c.args.number in
    let mid = (whole g.rest c.send_to_extender.new.bridge) in
    let heard = record mid { near = c.received.new.self } in
    let spelled = c.as_slice-frame.ensures.value ∙ c.spell_acknowledgement.ensures.bytes in
    let told = c.send_to_extender.new.post.log in
    let done = c.in_ok-send_to_extender.ensures in
    fresh_on s.tree (limits_in s) n c.args.sequence c.args.payload.now c.as_slice-frame.result.now s (whole g.rest c.args.bridge.now) mid heard c.received.new.self c.args.room.now.post.log told told
    spelled done c.received.ensures.state (sym c.received.ensures.fresh ∙ c.if-not-received.false)
    (subst (λ (r : Result Message CspFault). Does (hears_message s.tree (limits_in s) n r (world_in heard)) s heard told told)
    (sym c.in-Err.is ∙ c.read.ensures.exact) (does_nothing s heard told (near_at s mid done.at c.received.new.self)))
