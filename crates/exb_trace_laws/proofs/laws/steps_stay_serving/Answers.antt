use Rattle.exb_trace_laws.proofs.RunTraces.{steps_stay_serving}
use Rattle.exb_trace_laws.proofs.laws.steps_stay_serving.Goals as goal

pub returns : goal.returns
returns c = steps_stay_serving c.sends_are_words.ensures c.at_most_two.ensures c.ready_midway.ensures c.held_are_numbers.ensures c.steps_stay_sound.ensures c.runs_stay_sound.ensures c.tag_round_trip.ensures
