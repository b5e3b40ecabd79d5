use Rattle.exb_model_laws.proofs.FrameReach.{static_reaches_its_ports}
use Rattle.exb_model_laws.proofs.required_behaviour.static_reaches_its_ports.Goals as goal

pub returns : goal.returns
returns c = static_reaches_its_ports
