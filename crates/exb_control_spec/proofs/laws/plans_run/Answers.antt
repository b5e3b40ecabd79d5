use Rattle.exb_control_spec.proofs.Runs.PlanRuns.{plans_run}
use Rattle.exb_control_spec.proofs.laws.plans_run.Goals as goal

pub returns : goal.returns
returns c = plans_run
