use Rattle.exb_audit.proofs.ExtenderMachines.{AreDone}
use Rattle.exb_audit.proofs.rule2_extenders.follow_machines.Given as goal

abbrev pub invariant-loop-number : goal.invariant-loop-number
invariant-loop-number l = AreDone l.ports l.trace l.number
