use Rattle.exb_topology.proofs.Soundness.{read_sound}
use Rattle.exb_topology.proofs.laws.read_is_sound.Goals as goal

pub returns : goal.returns
returns c = read_sound
