use Rattle.std.specs.Prelude.{take, drop}
use Rattle.exb_audit.specs.Rule4Captures.{AreAll, AreSoFar}
use Rattle.exb_audit.proofs.TextCuts.{item_is, item_more}
use Rattle.std.proofs.lemmas.Bool.{false≢true}
use Rattle.std.proofs.Common.{◌+◌, sym, subst}
use Rattle.exb_audit.proofs.rule4_captures.count_all.Goals as goal

pub returns-then-not-count : goal.returns-then-not-count
returns-then-not-count c = (
  λ h. absurd (false≢true h),
  λ are. absurd (c.count.ensures.no c.if-not-count.true (take c.loop-line.line-index c.args.trace.now) (drop (c.loop-line.line-index + 1) c.args.trace.now) c.loop-line.invariant.so_far
      (subst (AreAll c.args.comes_in c.args.tree.now c.args.all.now) (item_is c.args.trace.now c.loop-line.line-index c.line-item.result c.line-item.is c.loop-line-test.true) are)),
)

pub loop-line-preserved : goal.loop-line-preserved
loop-line-preserved c = record {
  sized = c.count.ensures.length;
  so_far = subst (λ ls. AreSoFar c.args.comes_in c.args.tree.now c.args.all.now ls c.count.new.counts) (sym (item_more c.args.trace.now c.loop-line.line-index c.line-item.result c.line-item.is c.loop-line-test.true))
      (c.count.ensures.yes c.if-not-count.false (take c.loop-line.line-index c.args.trace.now) c.loop-line.invariant.so_far);
}
