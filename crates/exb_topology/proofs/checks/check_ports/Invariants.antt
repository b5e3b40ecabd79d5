use Rattle.exb_topology.specs.Checks.{port_table_ok}
use Rattle.exb_topology.proofs.ElementChecks.{So}
use Rattle.exb_topology.proofs.checks.check_ports.Given as goal

abbrev pub invariant-loop-index : goal.invariant-loop-index
invariant-loop-index l = So (port_table_ok l.tree) l.tables l.index
