use Rattle.std.proofs.Common.{◌≡◌, ap, ◌∙◌, false}
use Rattle.exb_extender.specs.Fields.{Fields, state_of}
use Rattle.exb_extender.specs.Forwarding.{is_ignored, sent_from_external}
use Rattle.exb_extender.specs.Tables.{tables_of}
use Rattle.exb_extender.proofs.ForwardingLemmas.{from_external}
use Rattle.exb_extender.proofs.extender.Extender.form_in.Goals as goal

pub returns-clause-sends : goal.returns-clause-sends
returns-clause-sends c =
    let external : (tables_of c.self.inside.tables).cascade c.args.port ≡ false = ap (λ (s : Fields). (state_of s).tables.cascade c.args.port) c.self.view_is ∙ c.requires.external in
    rw (← c.self.view_is)
    (c.form_from_external.ensures.sent
    ∙ ap (λ n. sent_from_external n c.args.frame.now) c.channel.ensures.channel
    ∙ from_external (tables_of c.self.inside.tables) c.args.port c.args.frame.now external)

pub returns-clause-ignored : goal.returns-clause-ignored
returns-clause-ignored c = rw (← c.self.view_is) (c.form_from_external.ensures.ignored ∙ ap (λ n. is_ignored n c.args.frame.now) c.channel.ensures.channel)
