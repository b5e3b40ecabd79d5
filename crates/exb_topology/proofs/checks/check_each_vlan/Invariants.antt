use Rattle.exb_topology.specs.Checks.{vlan_ok}
use Rattle.exb_topology.proofs.ElementChecks.{So}
use Rattle.exb_topology.proofs.checks.check_each_vlan.Given as goal

abbrev pub invariant-loop-index : goal.invariant-loop-index
invariant-loop-index l = So (vlan_ok l.tree) l.vlans l.index
