use Rattle.exb_trace_spec.specs.TraceChecker.{holds_some, record_of}
use Rattle.exb_trace_spec.specs.JournalLines.{entry_in}
use Rattle.exb_audit.specs.Frames.{frames_by}
use Rattle.exb_audit.proofs.Rule5Relays.{not_here}
use Rattle.std.proofs.Common.{sym, ◌∙◌}
use Rattle.exb_audit.proofs.rule5_relays.names.Goals as goal

pub returns-then-not-is_here : goal.returns-then-not-is_here
returns-then-not-is_here c = λ few.
    not_here c.args.tree.now c.args.side (entry_in c.args.text.now) c.in-Some.named.port c.in-Some.named.index (holds_some c.args.tree.now c.args.side c.args.frame.now (record_of (frames_by c.args.captures.now.all.now) (entry_in c.args.text.now)))
    c.in-Some.ensures.0 (sym c.is_here.ensures ∙ c.if-not-is_here.true)
