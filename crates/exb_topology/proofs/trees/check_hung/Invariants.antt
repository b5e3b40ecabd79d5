use Rattle.exb_topology.specs.Trees.{hung}
use Rattle.exb_topology.proofs.ElementChecks.{So}
use Rattle.exb_topology.proofs.trees.check_hung.Given as goal

abbrev pub invariant-loop-index : goal.invariant-loop-index
invariant-loop-index l = So (hung l.ports l.extenders) l.extenders l.index
