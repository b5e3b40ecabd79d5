use Rattle.std.proofs.Common.{◌∙◌, length-set, arith}
use Rattle.exb_net_file.proofs.LoopSteps.{own_more}
use Rattle.exb_net_file.proofs.wires.own_labels.Goals as goal

pub loop-bridge-preserved : goal.loop-bridge-preserved
loop-bridge-preserved c =
    let labels = c.loop-bridge.labels in
    let i = c.loop-bridge.bridge in
    record {
      sized = length-set labels i i ∙ c.loop-bridge.invariant.sized;
      own = own_more labels i (omega (arith, c.loop-bridge.invariant.sized, c.loop-bridge-test.true)) c.loop-bridge.invariant.own;
    }

pub returns-clause-own : goal.returns-clause-own
returns-clause-own c = λ b lt. c.loop-bridge.invariant.own b (omega (arith, lt, c.loop-bridge-test.false))
