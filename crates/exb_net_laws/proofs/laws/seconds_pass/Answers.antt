use Rattle.exb_net_laws.proofs.Deliveries.{seconds_pass}
use Rattle.exb_net_laws.proofs.laws.seconds_pass.Goals as goal

pub returns : goal.returns
returns c = seconds_pass c.tag_round_trip.ensures c.sends_are_words.ensures c.sends_leave_as_flat.ensures c.steps_tell.ensures c.steps_stay_written.ensures
