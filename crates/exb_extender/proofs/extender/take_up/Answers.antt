use Rattle.std.proofs.Common.{sym, ap, ◌∙◌}
use Rattle.exb_extender.specs.Forwarding.{sent_from_cascade}
use Rattle.exb_extender.specs.Tables.{tables_of}
use Rattle.exb_extender.proofs.ForwardingLemmas.{from_cascade, from_idle}
use Rattle.exb_extender.proofs.extender.take_up.Goals as goal

pub returns-then-cascade-clause-sends : goal.returns-then-cascade-clause-sends
returns-then-cascade-clause-sends c =
    c.send_up.ensures.sends c.args.frame.now
    ∙ c.form_from_cascade.ensures.sent
    ∙ ap (λ n. sent_from_cascade n c.args.frame.now) c.channel.ensures.channel
    ∙ from_cascade (tables_of c.args.tables.now) c.args.port c.args.frame.now (sym c.cascade.ensures ∙ c.if-cascade.true)

pub returns-then-cascade-clause-given : goal.returns-then-cascade-clause-given
returns-then-cascade-clause-given c = c.send_up.ensures.given c.args.frame.now c.form_from_cascade.ensures.given

pub returns-else-cascade-clause-sends : goal.returns-else-cascade-clause-sends
returns-else-cascade-clause-sends c =
    rw (c.requires.empty.frames, c.requires.empty.first, c.requires.empty.second)
    (from_idle (tables_of c.args.tables.now) c.args.port c.args.frame.now (sym c.cascade.ensures ∙ c.if-cascade.false) c.requires.cascade)
