use Rattle.exb_trace_laws.proofs.InputTraces.{runs_tell_legally}
use Rattle.exb_trace_laws.proofs.laws.runs_tell_legally.Goals as goal

pub returns : goal.returns
returns c =
    runs_tell_legally c.tag_round_trip.ensures c.sends_are_words.ensures c.sends_leave_as_flat.ensures c.steps_tell.ensures c.steps_stay_written.ensures c.settled_is_orderly.ensures
    c.setups_tell_legally.ensures
