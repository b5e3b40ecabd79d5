use Rattle.exb_settling_laws.proofs.WholeRounds.{rounds_are_whole}
use Rattle.exb_settling_laws.proofs.laws.rounds_are_whole.Goals as goal

pub returns : goal.returns
returns c = rounds_are_whole
