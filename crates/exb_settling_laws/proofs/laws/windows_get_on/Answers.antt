use Rattle.exb_settling_laws.proofs.SettlingLaws.{windows_get_on}
use Rattle.exb_settling_laws.proofs.laws.windows_get_on.Goals as goal

pub returns : goal.returns
returns c = windows_get_on c.tag_round_trip.ensures
