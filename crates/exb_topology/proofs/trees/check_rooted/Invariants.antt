use Rattle.exb_model.specs.Setup.{shape_of}
use Rattle.exb_topology.specs.Trees.{rooted}
use Rattle.exb_topology.proofs.ElementChecks.{So}
use Rattle.exb_topology.proofs.trees.check_rooted.Given as goal

abbrev pub invariant-loop-index : goal.invariant-loop-index
invariant-loop-index l = So (rooted (shape_of l.setup)) l.extenders l.index
