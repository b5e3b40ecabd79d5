use Rattle.std.proofs.Common.{subst}
use Rattle.exb_ecp.specs.StopAndWait.{IsSound}
use Rattle.exb_ecp.proofs.Soundness.{state_sound}
use Rattle.exb_ecp.proofs.stop_and_wait.Ecp.idle.Goals as goal

pub returns-clause-sound : goal.returns-clause-sound
returns-clause-sound c = subst IsSound c.self.view_is (state_sound c.self.inside c.self.invariant)
