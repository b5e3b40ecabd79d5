use Rattle.exb_model_laws.proofs.RelayLaws.{leaves_by_members}
use Rattle.exb_model_laws.proofs.forbidden_behaviour.leaves_by_members.Goals as goal

pub returns : goal.returns
returns c = leaves_by_members
