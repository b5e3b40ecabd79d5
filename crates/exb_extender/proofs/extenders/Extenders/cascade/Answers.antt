use Rattle.std.proofs.Common.{◌<◌, ◌≤◌, ap, sym, subst, ◌∙◌}
use Rattle.exb_csp.specs.Execution.{ExtenderTables}
use Rattle.exb_extender.proofs.ExtendersByNumber.{not_none, tables_found}
use Rattle.exb_extender.proofs.extenders.Extenders.cascade.Goals as goal

pub cascade-requires : goal.cascade-requires
cascade-requires c =
    let d = c.self.inside in
    subst (λ (t : ExtenderTables). (0 < c.args.port) × (c.args.port ≤ t.ports))
    (tables_found d.ports d.extenders.items d.passed c.args.self.now c.args.number _ c.index.result.now c.self.view_is c.requires.there c.index.ensures c.in-Some.extender c.in-Some.is) c.requires.port

pub returns-in-Some : goal.returns-in-Some
returns-in-Some c =
    let d = c.self.inside in
    c.cascade.ensures
    ∙ sym (ap (λ (t : ExtenderTables). t.cascade c.args.port)
    (tables_found d.ports d.extenders.items d.passed c.args.self.now c.args.number _ c.index.result.now c.self.view_is c.requires.there c.index.ensures c.in-Some.extender c.in-Some.is))

pub returns-in-None : goal.returns-in-None
returns-in-None c =
    let d = c.self.inside in
    absurd (not_none d.ports d.extenders.items d.passed c.args.self.now c.args.number _ c.index.result.now c.self.view_is c.requires.there c.index.ensures c.in-None.is)
