use Rattle.exb_extender.proofs.OwnFrames.{all_control}
use Rattle.exb_extender.proofs.laws.sends_control.Goals as goal

pub returns : goal.returns
returns c = all_control
