use Rattle.exb_net_file.specs.NetFiles.{name_ok}
use Rattle.exb_topology.proofs.ElementChecks.{So}
use Rattle.exb_net_file.proofs.net_file.check_names.Given as goal

abbrev pub invariant-loop-index : goal.invariant-loop-index
invariant-loop-index l = So name_ok l.bridges l.index
