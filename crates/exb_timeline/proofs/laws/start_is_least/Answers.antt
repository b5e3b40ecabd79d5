use Rattle.exb_timeline.proofs.StartSecond.{start-least}
use Rattle.exb_timeline.proofs.laws.start_is_least.Goals as goal

pub returns : goal.returns
returns c = start-least
