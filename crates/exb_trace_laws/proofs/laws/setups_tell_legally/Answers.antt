use Rattle.exb_trace_laws.proofs.Setups.{setups_tell_legally}
use Rattle.exb_trace_laws.proofs.laws.setups_tell_legally.Goals as goal

pub returns : goal.returns
returns c =
    setups_tell_legally c.tag_round_trip.ensures c.sends_are_words.ensures c.sends_leave_as_flat.ensures c.steps_tell.ensures c.steps_stay_written.ensures
    c.begins_traced.ensures c.begins_serving.ensures c.begins_sound.ensures c.runs_stay_traced.ensures c.settled_is_legal.ensures
