use Rattle.std.proofs.Common.{sym, ap, ◌∙◌, add-zero}
use Rattle.exb_config.specs.Tables.{bridge_of}
use Rattle.exb_control.specs.MachineSteps.{asks_in, rest_of}
use Rattle.exb_control.proofs.MachineSteps.{asked_on, finished, none_asked, in_force_is}
use Rattle.exb_control.proofs.Soundness.{can_ask}
use Rattle.exb_control.proofs.change_execution.clean.Goals as goal

pub ask_at-requires : goal.ask_at-requires
ask_at-requires c = can_ask (asks_in c.args.core.now.active.stage) 0 _ c.requires.known (rw add-zero c.requires.may)

pub returns-then-branch-clause-reached : goal.returns-then-branch-clause-reached
returns-then-branch-clause-reached c f events downs =
    let told = c.in_ok-ask_at.ensures in
    asked_on (rest_of f c.args.core.now) c.args.core.now.active.stage 0 _ events _ _ downs (sym told.asked ∙ c.if-branch.true) told.sessions told.asks

pub returns-clause-reached : goal.returns-clause-reached
returns-clause-reached c f events downs =
    let told = c.in_ok-ask_at.ensures in
    let old = c.args.core.now in
    let force = in_force_is old.active.stage c.requires.stage in
    let none = none_asked (asks_in old.active.stage) _ _ _ _ (sym told.asked ∙ c.if-branch.false) told.sessions told.asks in
    rw none.none
    (finished (rest_of f old) force.job force.change old.active.stage c.finish.new.self.stage 0 _ _ _ events c.args.asks.now _ downs
    force.is c.finish.ensures.stage none.askers none.told (ap bridge_of c.finish.ensures.config) (c.finish.ensures.held force.job force.change force.is))
