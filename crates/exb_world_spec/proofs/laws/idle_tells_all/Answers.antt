use Rattle.exb_world_spec.proofs.Journal.{idle_tells_all}
use Rattle.exb_world_spec.proofs.laws.idle_tells_all.Goals as goal

pub returns : goal.returns
returns c = idle_tells_all
