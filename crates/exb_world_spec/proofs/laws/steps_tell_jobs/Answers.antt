use Rattle.exb_world_spec.proofs.Journal.{steps_tell_jobs}
use Rattle.exb_world_spec.proofs.laws.steps_tell_jobs.Goals as goal

pub returns : goal.returns
returns c = steps_tell_jobs c.steps_tell.ensures c.tag_round_trip.ensures
