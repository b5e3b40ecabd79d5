use Rattle.std.proofs.Common.{◌+◌, ◌*◌, ◌^◌, length, ◌∙◌, add-zero}
use Rattle.exb_control.specs.Controls.{decide_of}
use Rattle.exb_control.specs.MachineSteps.{rest_of}
use Rattle.exb_control.proofs.NextJobs.{same_decide, steady_rests, on_way}
use Rattle.exb_control.proofs.job_turns.go_on.Goals as goal

pub turn-requires-clause-may : goal.turn-requires-clause-may
turn-requires-clause-may c = rw add-zero at (c.turns.invariant.steady 0 (rw add-zero c.requires.may))

pub returns-then-not-branch-clause-steady : goal.returns-then-not-branch-clause-steady
returns-then-not-branch-clause-steady c k may = c.in_ok-turn.ensures.steady k (c.turns.invariant.steady k may)

pub turns-preserved : goal.turns-preserved
turns-preserved c =
    let made = c.in_ok-turn.ensures in
    let way = c.turns.invariant in
    let goes = c.if-not-branch.false in
    let stage = made.stage goes in
    record {
      stage = stage;
      shape = made.shape ∙ way.shape;
      limits = made.limits ∙ way.limits;
      fit = rw way.shape at made.fit;
      way = λ f same. on_way (decide_of c.turns.core.active) (decide_of c.args.core.now.active) (same_decide c.args.core.now.active c.turns.core.active way.shape way.limits)
          (rest_of f c.turn.new.core) (rest_of f c.turns.core) c.turn.new.queue c.turns.queue _ _ _ _ _ _ (made.goes goes f same) ∙ way.way f same;
      steady = λ k may. steady_rests (2 ^ 21 * length c.turn.new.queue + k) c.turn.new.core.active.stage c.turn.new.core.place _ stage (made.steady k (way.steady k may));
    }
