use Rattle.exb_trace_laws.proofs.TracePrefixes.{runs_tell_so_far}
use Rattle.exb_trace_laws.proofs.laws.runs_tell_so_far.Goals as goal

pub returns : goal.returns
returns c = runs_tell_so_far c.tag_round_trip.ensures c.sends_are_words.ensures c.sends_leave_as_flat.ensures c.steps_tell.ensures c.steps_stay_written.ensures c.setups_tell_legally.ensures
