use Rattle.std.proofs.Common.{◌∙◌}
use Rattle.exb_net.proofs.StartSecond.{least_begins, least_goes, least_ends}
use Rattle.exb_net.proofs.preparation.start_of_all.Goals as goal

pub loop-captures-init : goal.loop-captures-init
loop-captures-init c = least_begins c.args.checked.now

pub loop-captures-preserved : goal.loop-captures-preserved
loop-captures-preserved c =
    least_goes c.args.checked.now c.loop-captures.captures-index c.captures-item.result c.as_slice.result.now c.loop-captures.least c.earliest_in-least.result c.loop-captures-test.true c.captures-item.is c.as_slice.ensures.value c.earliest_in-least.ensures c.loop-captures.invariant

pub returns : goal.returns
returns c = c.unwrap_or.ensures ∙ least_ends c.args.checked.now c.loop-captures.captures-index c.loop-captures.least c.loop-captures-test.false c.loop-captures.invariant
