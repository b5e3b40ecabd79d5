use Rattle.exb_trace_spec.specs.TraceChecker.{is_done}
use Rattle.exb_audit.specs.Rule2Extenders.{watch_of}
use Rattle.exb_audit.proofs.TextCuts.{item_first}
use Rattle.exb_audit.proofs.Rule2Extenders.{watched_on, watched_wrong}
use Rattle.std.specs.Prelude.{drop}
use Rattle.std.proofs.Common.{◌+◌, sym, ◌∙◌, ap}
use Rattle.exb_audit.proofs.rule2_extenders.follow_all.Goals as goal

pub returns-then-not-branch : goal.returns-then-not-branch
returns-then-not-branch c =
    sym (sym (ap is_done c.loop-line.invariant.whole)
    ∙ watched_wrong c.args.number (watch_of c.loop-line.watcher) c.line-item.result (drop (c.loop-line.line-index + 1) c.args.trace.now) (drop c.loop-line.line-index c.args.trace.now)
    (item_first c.args.trace.now c.loop-line.line-index c.line-item.result c.line-item.is c.loop-line-test.true) (sym c.in_ok-follow.ensures.right ∙ c.if-not-branch.true))

pub loop-line-preserved : goal.loop-line-preserved
loop-line-preserved c = record {
  whole = watched_on c.args.number (watch_of c.loop-line.watcher) c.line-item.result (drop (c.loop-line.line-index + 1) c.args.trace.now) (drop c.loop-line.line-index c.args.trace.now)
      (item_first c.args.trace.now c.loop-line.line-index c.line-item.result c.line-item.is c.loop-line-test.true) (watch_of c.follow.new.self) (sym c.in_ok-follow.ensures.right ∙ c.if-not-branch.false)
      (c.in_ok-follow.ensures.watch c.if-not-branch.false) ∙ c.loop-line.invariant.whole;
  ports = λ p h. c.in_ok-follow.ensures.ports p (c.loop-line.invariant.ports p h);
}
