use Rattle.exb_settling_laws.proofs.SettlingLaws.{rounds_deliver}
use Rattle.exb_settling_laws.proofs.laws.rounds_deliver.Goals as goal

pub returns : goal.returns
returns c = rounds_deliver c.tag_round_trip.ensures
