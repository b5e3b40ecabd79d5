use Rattle.exb_topology.specs.Checks.{command_ok}
use Rattle.exb_topology.proofs.ElementChecks.{So}
use Rattle.exb_topology.proofs.checks.check_commands.Given as goal

abbrev pub invariant-loop-index : goal.invariant-loop-index
invariant-loop-index l = So (command_ok l.tree) l.commands l.index
