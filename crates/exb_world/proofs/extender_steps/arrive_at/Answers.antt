use Rattle.std.proofs.Common.{ap, sym, subst, ◌∙◌}
use Rattle.std.specs.Prelude.{is_none, IfSome}
use Rattle.std.proofs.lemmas.Result.{on_ok_weaker}
use Rattle.exb_extender.specs.SentFrames.{form_sent, CanBeGiven}
use Rattle.exb_world.specs.MachineWorlds.{whole_of}
use Rattle.exb_world.proofs.ExtenderReactions.{ignores, arrives_ignored, arrives_up}
use Rattle.exb_world.proofs.extender_steps.arrive_at.Goals as goal

pub returns-in-None : goal.returns-in-None
returns-in-None c =
    let s = c.args.site.now in
    let core = (whole_of c.args.core.now) in
    let a = c.args.arrival.now in
    let outer = rw (c.device-number.ensures.value, c.place-port.ensures.value) at (sym c.cascade.ensures ∙ c.if-cascade.false) in
    let ignored = rw (c.device-number.ensures.value, c.place-port.ensures.value, c.as_slice-frame.ensures) at (sym c.form_in.ensures.ignored ∙ ap is_none c.in-None.is) in
    on_ok_weaker c.ignore-in-None.result
    (λ told.
    arrives_ignored s.tree a s core c.args.room.now.post.log c.ignore-in-None.new.log outer ignored
    (ignores s core a c.args.room.now.post.log c.ignore-in-None.new.log told c.ignore-in-None.ensures.passed c.ignore-in-None.ensures.left c.ignore-in-None.ensures.trace c.requires.at))
    c.ignore-in-None.ensures.events

pub send_frame-requires-clause-can : goal.send_frame-requires-clause-can
send_frame-requires-clause-can c =
    let f = c.as_slice-frame.result.now in
    record { side = tt; form = subst (λ r. IfSome r (CanBeGiven f)) c.in-Some.is c.form_in.ensures.given }

pub returns-in-Some : goal.returns-in-Some
returns-in-Some c =
    let s = c.args.site.now in
    let core = (whole_of c.args.core.now) in
    let a = c.args.arrival.now in
    let outer = rw (c.device-number.ensures.value, c.place-port.ensures.value) at (sym c.cascade.ensures ∙ c.if-cascade.false) in
    let isnt = rw (c.device-number.ensures.value, c.place-port.ensures.value, c.as_slice-frame.ensures) at (sym c.form_in.ensures.ignored ∙ ap is_none c.in-Some.is) in
    let are = rw (c.device-number.ensures.value, c.place-port.ensures.value, c.as_slice-frame.ensures) at (sym (ap (form_sent c.as_slice-frame.result.now) c.in-Some.is) ∙ c.form_in.ensures.sends) in
    on_ok_weaker c.send_frame.result
    (λ done.
    arrives_up s.tree a s core (whole_of c.send_frame.new.core) c.in-Some.form c.args.room.now.post.log c.send_frame.new.post.log outer isnt are
    (rw (c.stamp_of.ensures, c.device-number.ensures.value, c.as_slice-frame.ensures) at done))
    c.send_frame.ensures
