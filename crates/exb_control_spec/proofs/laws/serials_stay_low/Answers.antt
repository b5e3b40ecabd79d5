use Rattle.exb_control_spec.proofs.Runs.OpeningOrder.{serials_stay_low}
use Rattle.exb_control_spec.proofs.laws.serials_stay_low.Goals as goal

pub returns : goal.returns
returns c = serials_stay_low
