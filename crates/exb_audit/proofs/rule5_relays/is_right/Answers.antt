use Rattle.exb_trace_spec.specs.TraceChecker.{is_step}
use Rattle.exb_trace_spec.specs.Traversals.{until_next}
use Rattle.exb_audit.specs.Frames.{frames_by}
use Rattle.std.proofs.Common.{true, cond, sym, ◌∙◌, ap}
use Rattle.exb_audit.proofs.rule5_relays.is_right.Goals as goal

pub returns : goal.returns
returns c = λ few.
    c.is_step.ensures few ∙ ap (λ rest. is_step c.args.tree.now (frames_by c.args.captures.now.all.now) c.args.line.now rest) c.until_next.ensures
    ∙ sym (ap (λ b. cond b (is_step c.args.tree.now (frames_by c.args.captures.now.all.now) c.args.line.now (until_next c.args.behind.now)) true) (sym c.begins.ensures ∙ c.if-not-begins.false))
