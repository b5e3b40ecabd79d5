use Rattle.exb_world_laws.proofs.Runs.Crossings.{crossings_may_arrive}
use Rattle.exb_world_laws.proofs.laws.runs.crossings_may_arrive.Goals as goal

pub returns : goal.returns
returns c = crossings_may_arrive
