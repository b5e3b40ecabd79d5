use Rattle.exb_net_laws.proofs.Deliveries.{opened_nets_run}
use Rattle.exb_net_laws.proofs.laws.opened_nets_run.Goals as goal

pub returns : goal.returns
returns c = opened_nets_run c.tag_round_trip.ensures c.sends_are_words.ensures c.sends_leave_as_flat.ensures c.steps_tell.ensures c.steps_stay_written.ensures
