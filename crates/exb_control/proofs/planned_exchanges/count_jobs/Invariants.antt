use Rattle.exb_control.proofs.PlannedExchanges.{IsCounting}
use Rattle.exb_control.proofs.planned_exchanges.count_jobs.Given as goal

abbrev pub invariant-jobs : goal.invariant-jobs
invariant-jobs l = IsCounting l.initial.active l.active l.queue l.at l.count
