use Rattle.exb_world_laws.proofs.FrameBytes.{steps_go_on}
use Rattle.exb_world_laws.proofs.laws.steps.steps_go_on.Goals as goal

pub returns : goal.returns
returns c = steps_go_on c.steps_stay_written.ensures
