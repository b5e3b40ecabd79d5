use Rattle.exb_control_spec.proofs.Runs.Serials.{one_waits_always}
use Rattle.exb_control_spec.proofs.laws.one_waits_always.Goals as goal

pub returns : goal.returns
returns c = one_waits_always
