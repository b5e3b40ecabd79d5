use Rattle.exb_net_laws.proofs.NetRunLaws.{nets_are_played_eagerly}
use Rattle.exb_net_laws.proofs.laws.nets_are_played_eagerly.Goals as goal

pub returns : goal.returns
returns c = nets_are_played_eagerly c.tag_round_trip.ensures c.sends_are_words.ensures c.sends_leave_as_flat.ensures c.steps_tell.ensures c.steps_stay_written.ensures
