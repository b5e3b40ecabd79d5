use Rattle.exb_net_spec.proofs.NothingSentBack.{nothing_goes_back}
use Rattle.exb_net_spec.proofs.laws.nothing_goes_back.Goals as goal

pub returns : goal.returns
returns c = nothing_goes_back
