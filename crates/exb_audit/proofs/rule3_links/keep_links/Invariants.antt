use Rattle.exb_audit.proofs.ExtenderMachines.{AreCarried}
use Rattle.exb_audit.proofs.rule3_links.keep_links.Given as goal

abbrev pub invariant-loop-number : goal.invariant-loop-number
invariant-loop-number l = AreCarried l.ports l.hanging l.trace l.number
