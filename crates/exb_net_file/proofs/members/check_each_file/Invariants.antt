use Rattle.exb_net_file.specs.Members.{files_ok}
use Rattle.exb_topology.proofs.ElementChecks.{So}
use Rattle.exb_net_file.proofs.members.check_each_file.Given as goal

abbrev pub invariant-loop-index : goal.invariant-loop-index
invariant-loop-index l = So (files_ok l.members) l.members l.index
