use Rattle.exb_control_spec.proofs.Plans.CommandPlans.{refused_as_commanded}
use Rattle.exb_control_spec.proofs.laws.refused_as_commanded.Goals as goal

pub returns : goal.returns
returns c = refused_as_commanded
