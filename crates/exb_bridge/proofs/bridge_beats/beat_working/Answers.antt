use Rattle.std.proofs.Common.{sym, ◌∙◌}
use Rattle.std.proofs.lemmas.Result.{on_ok_weaker}
use Rattle.exb_control_spec.specs.Machine.{beats}
use Rattle.exb_control.proofs.Calls.{when_ok}
use Rattle.exb_bridge.specs.BridgeWorlds.{whole, world_in}
use Rattle.exb_bridge.proofs.ControlSteps.{moved_is}
use Rattle.exb_bridge.proofs.bridge_beats.beat_working.Goals as goal

pub returns : goal.returns
returns g c =
    let core = (whole g.rest c.args.bridge.now) in
    let fine = sym c.is_err.ensures.value ∙ c.if-is_err.false in
    let moved = when_ok _ fine c.beat.ensures.ok in
    let m = beats (world_in core).control in
    on_ok_weaker c.follow.result (λ done. done m (world_in core) (moved_is m core c.beat.new.self c.beat.new.out moved) moved.events moved.asks moved.downs) c.follow.ensures
