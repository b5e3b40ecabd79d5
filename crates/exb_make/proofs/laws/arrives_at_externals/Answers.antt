use Rattle.exb_make.proofs.ArrivingFrames.{arrives_external}
use Rattle.exb_make.proofs.laws.arrives_at_externals.Goals as goal

pub returns : goal.returns
returns c = arrives_external
