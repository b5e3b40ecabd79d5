use Rattle.exb_world_spec.proofs.IgnoredArrivals.{extenders_ignore}
use Rattle.exb_world_spec.proofs.laws.extenders_ignore.Goals as goal

pub returns : goal.returns
returns c = extenders_ignore
