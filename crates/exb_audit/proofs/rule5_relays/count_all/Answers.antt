use Rattle.std.specs.Prelude.{All, take, drop}
use Rattle.std.specs.List.{list_all}
use Rattle.std.proofs.lemmas.List.{take_all}
use Rattle.std.proofs.lemmas.List.Elements.{All-push}
use Rattle.exb_trace_spec.specs.TraceChecker.{few_at}
use Rattle.exb_audit.specs.Rule5Relays.{AreCounts, HasLowSide}
use Rattle.exb_audit.proofs.TextCuts.{item_is, item_more}
use Rattle.exb_audit.proofs.Rule5Relays.{fails_at, all_few}
use Rattle.std.proofs.Common.{◌≡◌, false, ◌+◌, sym, ◌∙◌, subst, ap}
use Rattle.exb_audit.proofs.rule5_relays.count_all.Goals as goal

pub returns-then-not-count : goal.returns-then-not-count
returns-then-not-count c =
    let parts = item_is c.args.lines.now c.loop-line.line-index c.line-item.result c.line-item.is c.loop-line-test.true in
    let bad : few_at c.args.tree.now c.args.lines.now c.line-item.result ≡ false = ap (λ ls. few_at c.args.tree.now ls c.line-item.result) parts
    ∙ c.count.ensures.no c.if-not-count.true (take c.loop-line.line-index c.args.lines.now) (drop (c.loop-line.line-index + 1) c.args.lines.now) c.loop-line.invariant.so_far in
    sym (ap (list_all (few_at c.args.tree.now c.args.lines.now)) parts ∙ fails_at (few_at c.args.tree.now c.args.lines.now) (take c.loop-line.line-index c.args.lines.now) (drop (c.loop-line.line-index + 1) c.args.lines.now) c.line-item.result bad)

pub loop-line-preserved : goal.loop-line-preserved
loop-line-preserved c =
    let more = item_more c.args.lines.now c.loop-line.line-index c.line-item.result c.line-item.is c.loop-line-test.true in
    record {
      sized = c.count.ensures.length;
      low = subst (All HasLowSide) (sym more) (All-push HasLowSide (take c.loop-line.line-index c.args.lines.now) c.line-item.result c.loop-line.invariant.low c.count.ensures.low);
      so_far = subst (λ ls. AreCounts c.args.tree.now ls c.count.new.counts) (sym more) (c.count.ensures.yes c.if-not-count.false (take c.loop-line.line-index c.args.lines.now) c.loop-line.invariant.so_far);
    }

pub returns : goal.returns
returns c =
    let whole = take_all c.loop-line.line-index c.args.lines.now c.loop-line-test.false in
    sym (all_few c.args.tree.now c.args.lines.now c.args.lines.now c.loop-line.counts (subst (All HasLowSide) whole c.loop-line.invariant.low) (subst (λ ls. AreCounts c.args.tree.now ls c.loop-line.counts) whole c.loop-line.invariant.so_far))
