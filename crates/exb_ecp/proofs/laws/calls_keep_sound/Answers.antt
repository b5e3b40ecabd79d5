use Rattle.exb_ecp.proofs.Soundness.{keeps_sound}
use Rattle.exb_ecp.proofs.laws.calls_keep_sound.Goals as goal

pub returns : goal.returns
returns c = keeps_sound
