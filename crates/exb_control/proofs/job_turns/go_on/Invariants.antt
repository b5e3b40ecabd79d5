use Rattle.std.proofs.Common.{length}
use Rattle.exb_control.proofs.NextJobs.{IsOnWay}
use Rattle.exb_control.proofs.job_turns.go_on.Given as goal

abbrev pub invariant-turns : goal.invariant-turns
invariant-turns l = IsOnWay l.heard l.initial.queue l.queue l.initial.core l.core l.initial.out.events l.out.events l.initial.out.asks l.out.asks l.initial.out.downs l.out.downs

abbrev pub decreases-turns : goal.decreases-turns
decreases-turns l = length l.queue
