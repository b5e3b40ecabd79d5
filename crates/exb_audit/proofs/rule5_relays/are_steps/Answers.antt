use Rattle.std.specs.Prelude.{drop}
use Rattle.exb_audit.specs.Rule5Relays.{each_is_right}
use Rattle.exb_audit.specs.Frames.{frames_by}
use Rattle.exb_audit.proofs.Rule5Relays.{step_first}
use Rattle.std.proofs.Common.{◌+◌, ◌&&◌, sym, ◌∙◌, ap}
use Rattle.exb_audit.proofs.rule5_relays.are_steps.Goals as goal

pub returns-then-not-is_right : goal.returns-then-not-is_right
returns-then-not-is_right c = λ few.
    sym (sym (c.loop-i.invariant few) ∙ step_first c.args.tree.now (frames_by c.args.captures.now.all.now) c.args.trace.now c.loop-i.i c.index-trace-i.result c.is_right.result c.index-trace-i.is c.loop-i-test.true (c.is_right.ensures few)
    ∙ ap (λ b. b && each_is_right c.args.tree.now (frames_by c.args.captures.now.all.now) (drop (c.loop-i.i + 1) c.args.trace.now)) c.if-not-is_right.true)

pub loop-i-preserved : goal.loop-i-preserved
loop-i-preserved c = λ few.
    sym (step_first c.args.tree.now (frames_by c.args.captures.now.all.now) c.args.trace.now c.loop-i.i c.index-trace-i.result c.is_right.result c.index-trace-i.is c.loop-i-test.true (c.is_right.ensures few)
    ∙ ap (λ b. b && each_is_right c.args.tree.now (frames_by c.args.captures.now.all.now) (drop (c.loop-i.i + 1) c.args.trace.now)) c.if-not-is_right.false) ∙ c.loop-i.invariant few
