use Rattle.exb_capacity.proofs.NeedLaws.{the_greatest}
use Rattle.exb_capacity.proofs.laws.is_the_greatest.Goals as goal

pub returns : goal.returns
returns c = the_greatest
