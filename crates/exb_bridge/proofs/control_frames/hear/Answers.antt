use Rattle.std.proofs.Common.{sym, ◌∙◌}
use Rattle.std.proofs.lemmas.Result.{on_ok_weaker}
use Rattle.exb_bridge.specs.TreeIndexes.{limits_in}
use Rattle.exb_bridge.specs.BridgeWorlds.{whole}
use Rattle.exb_bridge.proofs.ControlFrames.{announcement_on}
use Rattle.exb_bridge.proofs.control_frames.hear.Goals as goal

pub returns-in-Ok : goal.returns-in-Ok
returns-in-Ok g c =
    let s = c.args.site.now in
    on_ok_weaker c.hear_announcement.result (λ done.
    announcement_on s.tree (limits_in s) c.args.number c.args.frame.now c.in-Ok.announce s (whole g.rest c.args.bridge.now) (whole g.rest c.hear_announcement.new.bridge) c.args.room.now.post.log c.hear_announcement.new.room.post.log
    (sym c.read.ensures ∙ c.in-Ok.is) (done c.args.frame.now)) c.hear_announcement.ensures
