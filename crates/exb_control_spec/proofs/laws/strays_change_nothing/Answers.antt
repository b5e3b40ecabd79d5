use Rattle.exb_control_spec.proofs.Runs.StrayMessages.{strays_change_nothing}
use Rattle.exb_control_spec.proofs.laws.strays_change_nothing.Goals as goal

pub returns : goal.returns
returns c = strays_change_nothing
