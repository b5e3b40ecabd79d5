use Rattle.exb_topology.specs.Checks.{capture_ok}
use Rattle.exb_topology.proofs.ElementChecks.{So}
use Rattle.exb_topology.proofs.checks.check_captures.Given as goal

abbrev pub invariant-loop-capture : goal.invariant-loop-capture
invariant-loop-capture l = So (capture_ok l.tree) l.captures l.capture-index
