use Rattle.std.proofs.Common.{◌∙◌, length-set, arith}
use Rattle.exb_net_file.proofs.LoopSteps.{named_more, kept_more}
use Rattle.exb_net_file.proofs.wires.relabel.Goals as goal

pub loop-bridge-preserved : goal.loop-bridge-preserved
loop-bridge-preserved c =
    let labels = c.loop-bridge.labels in
    let i = c.loop-bridge.bridge in
    record {
      sized = length-set labels i c.renamed.result ∙ c.loop-bridge.invariant.sized;
      named = named_more labels c.args.labels.now c.args.from c.args.to i c.renamed.result (omega (arith, c.loop-bridge.invariant.sized, c.loop-bridge-test.true)) c.renamed.ensures c.loop-bridge.invariant.named (c.loop-bridge.invariant.kept i (omega arith));
      kept = kept_more labels c.args.labels.now i c.renamed.result c.loop-bridge.invariant.kept;
    }

pub returns-clause-named : goal.returns-clause-named
returns-clause-named c = λ b lt. c.loop-bridge.invariant.named b (omega (arith, lt, c.loop-bridge-test.false))
