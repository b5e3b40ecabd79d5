use Rattle.exb_world_spec.proofs.Journal.{setups_decide_once}
use Rattle.exb_world_spec.proofs.laws.setups_decide_once.Goals as goal

pub returns : goal.returns
returns c = setups_decide_once c.steps_tell.ensures c.tag_round_trip.ensures
