use Rattle.std.proofs.Common.{◌-◌, length, take, drop, sym, ◌∙◌}
use Rattle.std.proofs.lemmas.Result.{on_ok_weaker}
use Rattle.exb_ecp.specs.Frames.{pdu_in}
use Rattle.exb_bridge.specs.TreeIndexes.{limits_in}
use Rattle.exb_bridge.specs.BridgeWorlds.{whole}
use Rattle.exb_bridge.proofs.ControlFrames.{all_behind, request_on}
use Rattle.exb_bridge.proofs.control_frames.hear_pdu.Goals as goal

pub returns : goal.returns
returns g c =
    let s = c.args.site.now in
    let f = c.args.frame.now in
    on_ok_weaker c.hear_request.result (λ done.
    request_on s.tree (limits_in s) c.args.number (pdu_in f) c.in-Ok.pdu f (take (length f - 18) (drop 18 f)) s (whole g.rest c.args.bridge.now) (whole g.rest c.hear_request.new.bridge) c.args.room.now.post.log c.hear_request.new.room.post.log
    (sym c.read.ensures ∙ c.in-Ok.is) c.if-pdu-ne-ECP_SUBTYPE.false c.if-pdu.false (all_behind f) done) c.hear_request.ensures
