use Rattle.exb_control.proofs.HeardExtenders.{none_heard}
use Rattle.exb_control.proofs.announcements.Heard.new.Goals as goal

pub returns : goal.returns
returns c = none_heard 65
