use Rattle.exb_make.proofs.Validity.{made_valid}
use Rattle.exb_make.proofs.laws.made_is_valid.Goals as goal

pub returns : goal.returns
returns c = made_valid
