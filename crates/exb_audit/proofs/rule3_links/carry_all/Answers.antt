use Rattle.exb_audit.specs.Rule3Links.{place_in}
use Rattle.exb_audit.proofs.TextCuts.{item_first}
use Rattle.exb_audit.proofs.Rule3Links.{carrying_wrong}
use Rattle.std.specs.Prelude.{drop}
use Rattle.std.proofs.Common.{◌+◌}
use Rattle.exb_audit.proofs.rule3_links.carry_all.Goals as goal

pub returns-then-not-branch : goal.returns-then-not-branch
returns-then-not-branch c =
    carrying_wrong (place_in c.args.from.now) (place_in c.args.to.now) c.args.trace.now c.loop-line.direction c.line-item.result (drop (c.loop-line.line-index + 1) c.args.trace.now) (drop c.loop-line.line-index c.args.trace.now)
    (item_first c.args.trace.now c.loop-line.line-index c.line-item.result c.line-item.is c.loop-line-test.true) (c.in_ok-follow.ensures.no c.if-not-branch.true) c.loop-line.invariant
