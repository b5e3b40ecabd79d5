use Rattle.exb_trace_laws.proofs.TraceRelation.{standing_stays_traced}
use Rattle.exb_trace_laws.proofs.laws.standing_stays_traced.Goals as goal

pub returns : goal.returns
returns c =
    standing_stays_traced c.tag_round_trip.ensures c.sends_are_words.ensures c.sends_leave_as_flat.ensures c.steps_tell.ensures c.steps_stay_written.ensures
    c.steps_stay_sound.ensures c.runs_stay_traced.ensures
