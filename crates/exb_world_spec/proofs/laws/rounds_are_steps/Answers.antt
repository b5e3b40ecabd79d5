use Rattle.exb_world_spec.proofs.Rounds.{rounds_are_steps}
use Rattle.exb_world_spec.proofs.laws.rounds_are_steps.Goals as goal

pub returns : goal.returns
returns c = rounds_are_steps
