use Rattle.exb_model_laws.proofs.RelayLaws.{isolated_ports_are_apart}
use Rattle.exb_model_laws.proofs.forbidden_behaviour.isolated_ports_are_apart.Goals as goal

pub returns : goal.returns
returns c = isolated_ports_are_apart
