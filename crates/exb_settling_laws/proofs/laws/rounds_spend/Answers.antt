use Rattle.exb_settling_laws.proofs.SettlingLaws.{rounds_spend}
use Rattle.exb_settling_laws.proofs.laws.rounds_spend.Goals as goal

pub returns : goal.returns
returns c = rounds_spend
