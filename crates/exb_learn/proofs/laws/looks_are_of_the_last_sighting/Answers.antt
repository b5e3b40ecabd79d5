use Rattle.exb_learn.proofs.CallRuns.{looks}
use Rattle.exb_learn.proofs.laws.looks_are_of_the_last_sighting.Goals as goal

pub returns : goal.returns
returns c = looks
