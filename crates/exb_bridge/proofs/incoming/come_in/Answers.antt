use Rattle.std.proofs.Common.{sym, ap, ◌∙◌}
use Rattle.std.proofs.lemmas.Result.{on_ok_weaker}
use Rattle.exb_world_spec.specs.DataFrames.{arrival_by}
use Rattle.exb_bridge.specs.Sends.{is_passed}
use Rattle.exb_bridge.specs.BridgeWorlds.{whole, world_in}
use Rattle.exb_bridge.proofs.IncomingFrames.{comes_told, on_ok_two, told_ignored, told_relayed}
use Rattle.exb_bridge.proofs.incoming.come_in.Goals as goal

pub returns-then-not-relayed : goal.returns-then-not-relayed
returns-then-not-relayed g c =
    let w = world_in (whole g.rest c.args.bridge.now) in
    let stamp = c.args.stamp.now in
    let a = arrival_by stamp.port stamp c.args.bytes in
    let sent = c.in_ok-relayed.ensures in
    let mid = c.relay_on.new.room.post.log in
    on_ok_weaker c.ignore.result
    (λ events.
    comes_told c.args.site.now a w (whole g.rest c.relay_on.new.bridge) c.args.room.now.post.log mid c.ignore.new.log sent.does
    (told_ignored w.control.bridge a mid c.ignore.new.log (sym sent.relayed ∙ c.if-not-relayed.true) events c.ignore.ensures.passed c.ignore.ensures.left c.ignore.ensures.trace))
    c.ignore.ensures.events

pub returns : goal.returns
returns g c =
    let w = world_in (whole g.rest c.args.bridge.now) in
    let stamp = c.args.stamp.now in
    let a = arrival_by stamp.port stamp c.args.bytes in
    let sent = c.in_ok-relayed.ensures in
    let mid = c.relay_on.new.room.post.log in
    on_ok_two c.tell.result
    (λ events passed.
    comes_told c.args.site.now a w (whole g.rest c.relay_on.new.bridge) c.args.room.now.post.log mid c.tell.new.log sent.does
    (told_relayed w.control.bridge a c.has_passed-passed.result mid c.tell.new.log (sym sent.relayed ∙ c.if-not-relayed.false) (c.has_passed-passed.ensures ∙ ap is_passed sent.ingress)
    events passed c.tell.ensures.left c.tell.ensures.trace))
    c.tell.ensures.events c.tell.ensures.passed
