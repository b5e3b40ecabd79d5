use Rattle.std.proofs.Common.{subst, sym}
use Rattle.std.specs.Prelude.{IfSome}
use Rattle.exb_csp.specs.Execution.{ExtenderTables}
use Rattle.exb_extender.specs.Fields.{state_of}
use Rattle.exb_extender.specs.SingleSide.{GoesTo}
use Rattle.exb_extender.specs.Extenders.{far_of}
use Rattle.exb_extender.proofs.ExtendersByNumber.{tables_found}
use Rattle.exb_extender.proofs.DataFrames.{can_take}
use Rattle.exb_extender.proofs.extenders.Extenders.only_out.Goals as goal

pub only_out-requires : goal.only_out-requires
only_out-requires c =
    let d = c.self.inside in
    can_take c.args.from (far_of c.args.self.now c.args.number) (state_of c.in-Some.extender)
    (tables_found d.ports d.extenders.items d.passed c.args.self.now c.args.number _ c.index.result.now c.self.view_is c.requires.there c.index.ensures c.in-Some.extender c.in-Some.is) c.requires.from

pub returns-in-Some : goal.returns-in-Some
returns-in-Some c =
    let d = c.self.inside in
    subst (λ (t : ExtenderTables). IfSome c.only_out.result (GoesTo t c.args.from c.args.frame.now))
    (sym (tables_found d.ports d.extenders.items d.passed c.args.self.now c.args.number _ c.index.result.now c.self.view_is c.requires.there c.index.ensures c.in-Some.extender c.in-Some.is)) c.only_out.ensures
