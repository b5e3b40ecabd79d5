use Rattle.std.proofs.Common.{subst, arith}
use Rattle.std.specs.Prelude.{All}
use Rattle.std.proofs.lemmas.List.{take_all}
use Rattle.std.proofs.lemmas.List.Elements.{All-more}
use Rattle.exb_trace_spec.specs.WritableLines.{HasBytes}
use Rattle.exb_audit.proofs.facts.lines_bytes.Goals as goal

pub loop-line-preserved : goal.loop-line-preserved
loop-line-preserved c =
    let xs = c.args.lines.now in
    All-more HasBytes xs c.loop-line.line-index c.line-item.result c.loop-line-test.true c.loop-line.invariant (subst HasBytes c.line-item.is c.line_bytes.ensures)

pub returns : goal.returns
returns c = subst (All HasBytes) (take_all c.loop-line.line-index c.args.lines.now (omega arith)) c.loop-line.invariant
