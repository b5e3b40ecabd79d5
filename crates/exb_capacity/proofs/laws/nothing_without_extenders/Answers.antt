use Rattle.exb_capacity.proofs.NeedLaws.{nothing_needed}
use Rattle.exb_capacity.proofs.laws.nothing_without_extenders.Goals as goal

pub returns : goal.returns
returns c = nothing_needed
