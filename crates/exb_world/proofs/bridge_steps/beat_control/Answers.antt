use Rattle.std.proofs.Common.{sym, subst}
use Rattle.std.specs.Prelude.{OnOk}
use Rattle.exb_world_spec.specs.ControlFrames.{beats_control}
use Rattle.exb_world_spec.specs.Runs.Requests.{AsksWell}
use Rattle.exb_bridge.specs.TreeIndexes.{limits_in}
use Rattle.exb_bridge.specs.BridgeWorlds.{Rest, whole, world_in, IsAt, Does}
use Rattle.exb_world.proofs.bridge_steps.beat_control.Goals as goal

pub beat_control-requires : goal.beat_control-requires
beat_control-requires g c = (
  subst (λ (r : Rest). IsAt c.args.site.now (whole r c.args.core.now.bridge)) (sym c.requires.0) c.requires.1.0,
  subst (λ (r : Rest). AsksWell c.args.site.now.tree (limits_in c.args.site.now) (world_in (whole r c.args.core.now.bridge)).control) (sym c.requires.0) c.requires.1.1,
)

pub returns : goal.returns
returns g c =
    let s = c.args.site.now in
    let bridge = c.args.core.now.bridge in
    subst (λ (r : Rest). OnOk c.beat_control.result (Does (beats_control s.tree (world_in (whole r bridge))) s (whole r c.beat_control.new.bridge) c.args.room.now.post.log c.beat_control.new.room.post.log)) c.requires.0 c.beat_control.ensures
