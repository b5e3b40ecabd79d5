use Rattle.exb_world_laws.proofs.OneBridgeKept.{stands_go_on}
use Rattle.exb_world_laws.proofs.laws.steps.stands_go_on.Goals as goal

pub returns : goal.returns
returns c = stands_go_on c.tag_round_trip.ensures c.sends_are_words.ensures c.sends_leave_as_flat.ensures c.steps_tell.ensures
