use Rattle.exb_settling_laws.proofs.SettlingLaws.{settling_ends}
use Rattle.exb_settling_laws.proofs.laws.settling_ends.Goals as goal

pub returns : goal.returns
returns c = settling_ends c.tag_round_trip.ensures
