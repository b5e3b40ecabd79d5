use Rattle.std.proofs.Common.{ℕ, ap, ◌∙◌}
use Rattle.std.proofs.lemmas.Result.{on_ok_weaker}
use Rattle.exb_csp.specs.Encoding.{message_bytes}
use Rattle.exb_world_spec.specs.ControlFrames.{bridge_request}
use Rattle.exb_bridge.specs.BridgeWorlds.{whole}
use Rattle.exb_bridge.proofs.ExtenderRequests.{submitted_on}
use Rattle.exb_bridge.proofs.requests.ask.Goals as goal

pub returns : goal.returns
returns g c =
    let s = c.args.site.now in
    let asked = c.args.asked.now in
    let payload = c.as_slice-payload.result.now in
    let spelled = c.as_slice-frame.ensures.value ∙ c.spell_request.ensures.bytes ∙ ap (λ (k : ℕ). bridge_request k payload) c.submit-sequence.ensures.sequence in
    on_ok_weaker c.send_to_extender.result
    (submitted_on s.tree s (whole g.rest c.args.bridge.now) (whole g.rest c.send_to_extender.new.bridge) asked.extender (message_bytes asked.message) payload c.as_slice-frame.result.now c.submit-sequence.new.self c.args.post.now.log c.send_to_extender.new.post.log
    (c.as_slice-payload.ensures.value ∙ c.write.ensures.spelled) spelled c.submit-sequence.ensures.state)
    c.send_to_extender.ensures
