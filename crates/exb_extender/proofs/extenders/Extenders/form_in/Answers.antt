use Rattle.std.proofs.Common.{◌<◌, ◌≤◌, ap, sym, subst, ◌∙◌}
use Rattle.exb_csp.specs.Execution.{ExtenderTables}
use Rattle.exb_extender.specs.declared.sends.Side.TheVariants.{Port}
use Rattle.exb_extender.specs.Forwarding.{emitted, is_ignored}
use Rattle.exb_extender.proofs.ExtendersByNumber.{not_none, tables_found}
use Rattle.exb_extender.proofs.extenders.Extenders.form_in.Goals as goal

pub form_in-requires-clause-port : goal.form_in-requires-clause-port
form_in-requires-clause-port c =
    let d = c.self.inside in
    subst (λ (t : ExtenderTables). (0 < c.args.port) × (c.args.port ≤ t.ports))
    (tables_found d.ports d.extenders.items d.passed c.args.self.now c.args.number _ c.index.result.now c.self.view_is c.requires.there c.index.ensures c.in-Some.extender c.in-Some.is) c.requires.port

pub form_in-requires-clause-external : goal.form_in-requires-clause-external
form_in-requires-clause-external c =
    let d = c.self.inside in
    sym (ap (λ (t : ExtenderTables). t.cascade c.args.port)
    (tables_found d.ports d.extenders.items d.passed c.args.self.now c.args.number _ c.index.result.now c.self.view_is c.requires.there c.index.ensures c.in-Some.extender c.in-Some.is)) ∙ c.requires.external

pub returns-in-Some-clause-sends : goal.returns-in-Some-clause-sends
returns-in-Some-clause-sends c =
    let d = c.self.inside in
    c.form_in.ensures.sends
    ∙ ap (λ (t : ExtenderTables). emitted t (Port c.args.port) c.args.frame.now)
    (sym (tables_found d.ports d.extenders.items d.passed c.args.self.now c.args.number _ c.index.result.now c.self.view_is c.requires.there c.index.ensures c.in-Some.extender c.in-Some.is))

pub returns-in-Some-clause-ignored : goal.returns-in-Some-clause-ignored
returns-in-Some-clause-ignored c =
    let d = c.self.inside in
    c.form_in.ensures.ignored
    ∙ ap (λ (t : ExtenderTables). is_ignored (t.own c.args.port) c.args.frame.now)
    (sym (tables_found d.ports d.extenders.items d.passed c.args.self.now c.args.number _ c.index.result.now c.self.view_is c.requires.there c.index.ensures c.in-Some.extender c.in-Some.is))

pub returns-in-None-clause-sends : goal.returns-in-None-clause-sends
returns-in-None-clause-sends c =
    let d = c.self.inside in
    absurd (not_none d.ports d.extenders.items d.passed c.args.self.now c.args.number _ c.index.result.now c.self.view_is c.requires.there c.index.ensures c.in-None.is)

pub returns-in-None-clause-ignored : goal.returns-in-None-clause-ignored
returns-in-None-clause-ignored c =
    let d = c.self.inside in
    absurd (not_none d.ports d.extenders.items d.passed c.args.self.now c.args.number _ c.index.result.now c.self.view_is c.requires.there c.index.ensures c.in-None.is)
