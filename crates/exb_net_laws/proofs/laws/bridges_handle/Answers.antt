use Rattle.exb_net_laws.proofs.Deliveries.{bridges_handle}
use Rattle.exb_net_laws.proofs.laws.bridges_handle.Goals as goal

pub returns : goal.returns
returns c = bridges_handle c.tag_round_trip.ensures c.sends_are_words.ensures c.sends_leave_as_flat.ensures c.steps_tell.ensures c.steps_stay_written.ensures
