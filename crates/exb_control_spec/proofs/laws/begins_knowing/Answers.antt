use Rattle.exb_control_spec.proofs.Runs.RequestTargets.{begins_knowing}
use Rattle.exb_control_spec.proofs.laws.begins_knowing.Goals as goal

pub returns : goal.returns
returns c = begins_knowing
