use Rattle.std.proofs.Common.{take}
use Rattle.exb_topology.specs.Checks.{static_ok}
use Rattle.exb_topology.specs.StaticEntrySets.{Knows}
use Rattle.exb_topology.proofs.ElementChecks.{So}
use Rattle.exb_topology.proofs.checks.check_statics.Given as goal

abbrev pub invariant-loop-index : goal.invariant-loop-index
invariant-loop-index l = So (static_ok l.tree) l.statics l.index × Knows l.given (take l.index l.statics)
