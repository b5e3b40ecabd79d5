use Rattle.std.proofs.Common.{subst, sym, length, ◌≤◌, List, ℕ}
use Rattle.exb_ecp.specs.StopAndWait.{IsSound}
use Rattle.exb_ecp.specs.Calls.{Beat}
use Rattle.exb_ecp.proofs.Soundness.{keeps_sound}
use Rattle.exb_extender.proofs.ControlLemmas.{payload_fits}
use Rattle.exb_extender.proofs.control.beat_at.Goals as goal

pub write_request-requires : goal.write_request-requires
write_request-requires c =
    subst (λ (xs : List ℕ). length xs ≤ 1024) (sym c.payload.ensures) (payload_fits c.beat.new.self (subst IsSound (sym c.beat.ensures.step) (keeps_sound.keeps Beat c.args.ecp.now tt c.requires.sound)))
