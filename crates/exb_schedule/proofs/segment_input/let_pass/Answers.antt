use Rattle.std.proofs.Common.{List, sym, subst}
use Rattle.exb_world_spec.specs.Worlds.{Step, Tick}
use Rattle.exb_bridge.proofs.IncomingFrames.{on_ok_two}
use Rattle.exb_schedule.specs.StepSequences.{HasRun}
use Rattle.exb_schedule.proofs.SegmentInput.{tick_none, tick_some}
use Rattle.exb_schedule.proofs.StepSequences.{run_nothing, run_step}
use Rattle.exb_schedule.proofs.segment_input.let_pass.Goals as goal

pub returns-then-seconds-eq0-clause-ok : goal.returns-then-seconds-eq0-clause-ok
returns-then-seconds-eq0-clause-ok c =
    let old = c.args.world.now in
    subst (λ (zs : List Step). HasRun zs old old) (sym (tick_none c.args.seconds c.if-seconds-eq0.true)) (run_nothing c.args.world.now)

pub returns-clause-ok : goal.returns-clause-ok
returns-clause-ok c =
    let old = c.args.world.now in
    on_ok_two c.tick.result
    (λ made may.
    subst (λ (zs : List Step). HasRun zs old c.tick.new.self) (sym (tick_some c.args.seconds c.if-seconds-eq0.false)) (run_step (Tick c.args.seconds) old c.tick.new.self made may))
    c.tick.ensures.ok c.tick.ensures.may
