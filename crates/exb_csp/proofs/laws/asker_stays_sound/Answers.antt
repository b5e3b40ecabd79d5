use Rattle.exb_csp.proofs.Sessions.AskerLaws.{stays_sound}
use Rattle.exb_csp.proofs.laws.asker_stays_sound.Goals as goal

pub returns : goal.returns
returns c = stays_sound
