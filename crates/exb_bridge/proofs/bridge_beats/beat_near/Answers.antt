use Rattle.std.proofs.Common.{rules, ◌≡◌, ap, sym, subst, ◌∙◌}
use Rattle.std.specs.Prelude.{IfSome}
use Rattle.std.proofs.lemmas.Result.{on_ok_weaker}
use Rattle.exb_ecp.specs.declared.stop_and_wait.Beat.TheVariants as due
use Rattle.exb_ecp.specs.StopAndWait.{State as Ecp, sent_payload}
use Rattle.exb_bridge.specs.BridgeWorlds.{whole}
use Rattle.exb_bridge.proofs.Resends.{again_on}
use Rattle.exb_bridge.proofs.bridge_beats.beat_near.Goals as goal

pub returns : goal.returns
returns g c =
    let is : c.beat.result ≡ due.SendAgain = search rules in
    let its = subst (λ (e : Ecp). IfSome e.sending (λ x. c.sequence.result ≡ x.sequence)) c.with-end.ensures c.sequence.ensures.sent in
    let bytes = c.payload_of.ensures.is ∙ ap (λ (e : Ecp). sent_payload e.sending) c.with-end.ensures in
    let spelled = c.as_slice-frame.ensures.value ∙ c.spell_request.ensures.bytes in
    on_ok_weaker c.send_to_extender.result (λ done.
    again_on c.args.site.now.tree c.args.number c.args.site.now (whole g.rest c.args.bridge.now) (whole g.rest c.send_to_extender.new.bridge) c.beat.new.self c.sequence.result c.payload_of.result.now c.as_slice-frame.result.now
    c.args.post.now.log c.send_to_extender.new.post.log c.beat.ensures.state (sym c.beat.ensures.due ∙ is) its bytes spelled done) c.send_to_extender.ensures
