use Rattle.exb_settling_laws.proofs.AgeingAndBeats.{ageing_stays}
use Rattle.exb_settling_laws.proofs.laws.ageing_stays.Goals as goal

pub returns : goal.returns
returns c = ageing_stays
