use Rattle.exb_timeline.proofs.NetStart.{dues_are}
use Rattle.exb_timeline.proofs.laws.dues_of_all.Goals as goal

pub returns : goal.returns
returns c = dues_are
