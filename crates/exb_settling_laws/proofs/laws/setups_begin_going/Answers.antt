use Rattle.exb_settling_laws.proofs.OrderlyWorlds.{setups_begin_going}
use Rattle.exb_settling_laws.proofs.laws.setups_begin_going.Goals as goal

pub returns : goal.returns
returns c = setups_begin_going
