use Rattle.exb_world_laws.proofs.Runs.Crossings.{commands_send_nothing}
use Rattle.exb_world_laws.proofs.laws.runs.commands_send_nothing.Goals as goal

pub returns : goal.returns
returns c = commands_send_nothing c.tag_round_trip.ensures c.sends_are_words.ensures c.sends_leave_as_flat.ensures c.steps_tell.ensures c.steps_stay_written.ensures
