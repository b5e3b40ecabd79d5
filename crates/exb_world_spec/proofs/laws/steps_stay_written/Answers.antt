use Rattle.exb_world_spec.proofs.FrameBytes.{steps_stay_written}
use Rattle.exb_world_spec.proofs.laws.steps_stay_written.Goals as goal

pub returns : goal.returns
returns c = steps_stay_written c.tag_round_trip.ensures c.sends_are_words.ensures c.ready_midway.ensures c.held_are_numbers.ensures
