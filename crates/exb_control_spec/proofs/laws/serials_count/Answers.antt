use Rattle.exb_control_spec.proofs.Runs.Serials.{serials_count}
use Rattle.exb_control_spec.proofs.laws.serials_count.Goals as goal

pub returns : goal.returns
returns c = serials_count
