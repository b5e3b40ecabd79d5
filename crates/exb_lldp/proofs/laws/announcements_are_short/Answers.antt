use Rattle.std.proofs.Common.{length, ap, ◌∙◌, refl}
use Rattle.exb_lldp.proofs.RoundTrip.{spelling_is}
use Rattle.exb_lldp.proofs.laws.announcements_are_short.Goals as goal

pub returns : goal.returns
returns c = λ a h. ap length (spelling_is a h) ∙ refl
