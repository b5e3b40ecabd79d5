use Rattle.exb_control_spec.proofs.Runs.Journal.{steps_tell_of}
use Rattle.exb_control_spec.proofs.Plans.CommandPlans.{refused_as_commanded}
use Rattle.exb_control_spec.proofs.laws.steps_tell.Goals as goal

pub returns : goal.returns
returns c = steps_tell_of refused_as_commanded
