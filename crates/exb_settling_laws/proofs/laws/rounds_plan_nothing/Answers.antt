use Rattle.exb_settling_laws.proofs.SettlingLaws.{rounds_plan_nothing}
use Rattle.exb_settling_laws.proofs.laws.rounds_plan_nothing.Goals as goal

pub returns : goal.returns
returns c = rounds_plan_nothing
