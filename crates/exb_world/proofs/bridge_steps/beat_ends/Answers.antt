use Rattle.std.proofs.Common.{sym, subst}
use Rattle.std.specs.Prelude.{OnOk}
use Rattle.exb_world_spec.specs.Effects.{each}
use Rattle.exb_world_spec.specs.ControlFrames.{beats_near}
use Rattle.exb_world_spec.specs.Steps.{all_extenders, if_there}
use Rattle.exb_bridge.specs.BridgeWorlds.{Rest, whole, world_in, IsAt, Does}
use Rattle.exb_world.proofs.bridge_steps.beat_ends.Goals as goal

pub beat_ends-requires : goal.beat_ends-requires
beat_ends-requires g c = subst (λ (r : Rest). IsAt c.args.site.now (whole r c.args.core.now.bridge)) (sym c.requires.0) c.requires.1

pub returns : goal.returns
returns g c =
    let s = c.args.site.now in
    let bridge = c.args.core.now.bridge in
    subst (λ (r : Rest). OnOk c.beat_ends.result (Does (each (if_there s.tree (beats_near s.tree)) all_extenders (world_in (whole r bridge))) s (whole r c.beat_ends.new.bridge) c.args.room.now.post.log c.beat_ends.new.post.log)) c.requires.0 c.beat_ends.ensures
