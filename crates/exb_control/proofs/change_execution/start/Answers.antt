use Rattle.std.proofs.Common.{◌≡◌, ◌+◌, ◌^◌, refl, ap, ◌∙◌, arith}
use Rattle.std.proofs.lemmas.Result.{on_ok_weaker}
use Rattle.exb_config.specs.Tables.{bridge_of}
use Rattle.exb_control.specs.declared.stage.Stage.TheVariants.{Prepared}
use Rattle.exb_control.specs.ActiveConfigs.{bridge_in, held_in, stage_of}
use Rattle.exb_control.specs.Controls.{decide_of}
use Rattle.exb_control.specs.MachineSteps.{askers_of, rest_of}
use Rattle.exb_control.proofs.JobStart.{is_ready, begins, short}
use Rattle.exb_control.proofs.Soundness.{may_ask}
use Rattle.exb_control.proofs.KnownExtenders.{known}
use Rattle.exb_control.proofs.change_execution.start.Goals as goal

pub proceed-requires-clause-busy : goal.proceed-requires-clause-busy
proceed-requires-clause-busy c =
    let old = c.args.core.now in
    let made = c.in_ok-cause.ensures in
    let o = decide_of old.active (bridge_in old.active) (held_in old.active) c.args.job.now in
    let ready = is_ready o c.in_ok-cause.field-0 made.cause c.in-None.is in
    let stage : c.start.new.self.stage ≡ Prepared c.args.job.now ready.change = made.stage ∙ ap (stage_of c.args.job.now) ready.is in
    rw stage refl

pub proceed-requires-clause-known : goal.proceed-requires-clause-known
proceed-requires-clause-known c =
    let old = c.args.core.now in
    let made = c.in_ok-cause.ensures in
    let o = decide_of old.active (bridge_in old.active) (held_in old.active) c.args.job.now in
    let ready = is_ready o c.in_ok-cause.field-0 made.cause c.in-None.is in
    let stage : c.start.new.self.stage ≡ Prepared c.args.job.now ready.change = made.stage ∙ ap (stage_of c.args.job.now) ready.is in
    let tree = rw made.shape at c.is_active_config.ensures.tree in
    rw stage (known old.active.shape old.active.limits _ _ c.args.job.now ready.change ready.claimed tree c.requires.fits ready.is).prepare

pub proceed-requires-clause-after : goal.proceed-requires-clause-after
proceed-requires-clause-after c =
    let old = c.args.core.now in
    let made = c.in_ok-cause.ensures in
    let o = decide_of old.active (bridge_in old.active) (held_in old.active) c.args.job.now in
    let ready = is_ready o c.in_ok-cause.field-0 made.cause c.in-None.is in
    let stage : c.start.new.self.stage ≡ Prepared c.args.job.now ready.change = made.stage ∙ ap (stage_of c.args.job.now) ready.is in
    let tree = rw made.shape at c.is_active_config.ensures.tree in
    rw stage (known old.active.shape old.active.limits _ _ c.args.job.now ready.change ready.claimed tree c.requires.fits ready.is).cleanup

pub proceed-requires-clause-may : goal.proceed-requires-clause-may
proceed-requires-clause-may c =
    let old = c.args.core.now in
    let made = c.in_ok-cause.ensures in
    let o = decide_of old.active (bridge_in old.active) (held_in old.active) c.args.job.now in
    let ready = is_ready o c.in_ok-cause.field-0 made.cause c.in-None.is in
    let stage : c.start.new.self.stage ≡ Prepared c.args.job.now ready.change = made.stage ∙ ap (stage_of c.args.job.now) ready.is in
    let few = short c.start.new.self.shape (bridge_in c.start.new.self) (held_in c.start.new.self) c.start.new.self.stage c.args.job.now ready.change stage c.is_active_config.ensures.holds in
    rw stage (may_ask (2 ^ 21) _ (askers_of old.sessions) (omega arith) c.requires.may)

pub returns-in-None-clause-reached : goal.returns-in-None-clause-reached
returns-in-None-clause-reached c =
    let old = c.args.core.now in
    let made = c.in_ok-cause.ensures in
    let o = decide_of old.active (bridge_in old.active) (held_in old.active) c.args.job.now in
    let ready = is_ready o c.in_ok-cause.field-0 made.cause c.in-None.is in
    on_ok_weaker c.proceed.result (λ reached f.
    reached f ∙ begins (rest_of f old) c.args.job.now o ready.change ready.claimed c.start.new.self.stage _ _ c.args.out.now.events c.args.out.now.asks c.args.out.now.downs ready.is made.stage (ap bridge_of made.config) made.held)
    c.proceed.ensures.reached

pub returns-in-None-clause-steady : goal.returns-in-None-clause-steady
returns-in-None-clause-steady c =
    let old = c.args.core.now in
    let made = c.in_ok-cause.ensures in
    let o = decide_of old.active (bridge_in old.active) (held_in old.active) c.args.job.now in
    let ready = is_ready o c.in_ok-cause.field-0 made.cause c.in-None.is in
    let stage : c.start.new.self.stage ≡ Prepared c.args.job.now ready.change = made.stage ∙ ap (stage_of c.args.job.now) ready.is in
    let few = short c.start.new.self.shape (bridge_in c.start.new.self) (held_in c.start.new.self) c.start.new.self.stage c.args.job.now ready.change stage c.is_active_config.ensures.holds in
    on_ok_weaker c.proceed.result (λ steady k may.
    steady k (rw stage (may_ask (2 ^ 21 + k) _ (askers_of old.sessions) (omega arith) may))) c.proceed.ensures.steady
