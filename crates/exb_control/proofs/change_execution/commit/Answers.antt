use Rattle.std.proofs.Common.{◌∙◌}
use Rattle.std.proofs.lemmas.Result.{on_ok_weaker}
use Rattle.exb_control.specs.MachineSteps.{rest_of}
use Rattle.exb_control.proofs.MachineSteps.{prepared_is, effect_from}
use Rattle.exb_control.proofs.change_execution.commit.Goals as goal

pub returns-clause-reached : goal.returns-clause-reached
returns-clause-reached c =
    let old = c.args.core.now in
    let ready = prepared_is old.active.stage c.requires.stage in
    let force = c.in_ok-commit.ensures.stage ready.job ready.change ready.is in
    let told = c.in_ok-tell.ensures in
    let here = c.stage.ensures ∙ force in
    on_ok_weaker c.clean.result (λ reached f.
    reached f c.tell.new.out.events c.tell.new.out.downs
    ∙ effect_from (rest_of f old) ready.job ready.change old.active.stage c.commit.new.self.stage _ _ _ _ c.args.out.now.asks _ _ _ ready.is force
    (c.in_ok-commit.ensures.config ready.job ready.change ready.is) c.in_ok-commit.ensures.held (told.events ready.job ready.change here) told.asks (told.downs ready.job ready.change here)) c.clean.ensures.reached
