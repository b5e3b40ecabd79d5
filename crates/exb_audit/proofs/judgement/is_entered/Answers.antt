use Rattle.exb_trace_spec.specs.Rule5Relays.{AreSteps}
use Rattle.std.specs.Bool.{Decides}
use Rattle.exb_audit.specs.Frames.{frames_by}
use Rattle.exb_audit.proofs.Rule5Relays.{right_decides}
use Rattle.std.proofs.Common.{sym, subst}
use Rattle.exb_audit.proofs.judgement.is_entered.Goals as goal

pub returns : goal.returns
returns c =
    subst (λ b. Decides b (AreSteps c.args.tree.now (frames_by c.args.captures.now) c.args.trace.now)) (sym (c.all_entered.ensures c.are_frames.ensures.few))
    (right_decides c.args.tree.now (frames_by c.args.captures.now) c.rule_5_is_decided.ensures c.are_frames.ensures c.args.trace.now)
