use Rattle.exb_control_spec.proofs.Runs.Journal.{decided_once_of}
use Rattle.exb_control_spec.proofs.Plans.CommandPlans.{refused_as_commanded}
use Rattle.exb_control_spec.proofs.laws.decided_once.Goals as goal

pub returns : goal.returns
returns c = decided_once_of refused_as_commanded
