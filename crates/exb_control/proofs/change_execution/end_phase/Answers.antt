use Rattle.std.proofs.Common.{refl, ap, ◌∙◌}
use Rattle.std.proofs.lemmas.Result.{on_ok_weaker}
use Rattle.exb_config.specs.Tables.{bridge_of}
use Rattle.exb_control_spec.specs.Machine.{Moved}
use Rattle.exb_control.specs.MachineSteps.{rest_of, reached_by}
use Rattle.exb_control.proofs.MachineSteps.{prepared_ends, finished, in_force_is}
use Rattle.exb_control.proofs.change_execution.end_phase.Goals as goal

pub returns-then-is_prepared-clause-reached : goal.returns-then-is_prepared-clause-reached
returns-then-is_prepared-clause-reached c =
    let old = c.args.core.now in
    on_ok_weaker c.commit.result (λ reached f.
    reached f ∙ ap (λ (m : Moved). reached_by m c.args.out.now.events c.args.out.now.asks c.args.out.now.downs) (prepared_ends old.active.stage (rest_of f old) (c.is_prepared.ensures.yes c.if-is_prepared.true))) c.commit.ensures.reached

pub returns-clause-reached : goal.returns-clause-reached
returns-clause-reached c f =
    let old = c.args.core.now in
    let force = in_force_is old.active.stage (c.is_prepared.ensures.no c.if-is_prepared.false c.requires.busy) in
    finished (rest_of f old) force.job force.change old.active.stage c.finish.new.self.stage old.place _ _ _ c.args.out.now.events c.args.out.now.asks _ c.args.out.now.downs
    force.is c.finish.ensures.stage refl refl (ap bridge_of c.finish.ensures.config) (c.finish.ensures.held force.job force.change force.is)
