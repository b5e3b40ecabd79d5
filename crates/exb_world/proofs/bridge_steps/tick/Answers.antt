use Rattle.std.proofs.Common.{sym, subst}
use Rattle.std.specs.Prelude.{OnOk}
use Rattle.exb_world_spec.specs.Steps.{done_by}
use Rattle.exb_world_spec.specs.Worlds.{Tick}
use Rattle.exb_bridge.specs.TreeIndexes.{limits_in}
use Rattle.exb_bridge.specs.BridgeWorlds.{Rest, whole, world_in, IsAt, Does}
use Rattle.exb_world.proofs.bridge_steps.tick.Goals as goal

pub tick-requires : goal.tick-requires
tick-requires g c = (
  subst (λ (r : Rest). IsAt c.args.site.now (whole r c.args.core.now.bridge)) (sym c.requires.0) c.requires.1.0,
  c.requires.1.1,
)

pub returns : goal.returns
returns g c =
    let s = c.args.site.now in
    let bridge = c.args.core.now.bridge in
    subst (λ (r : Rest). OnOk c.tick.result (Does (done_by s.tree (limits_in s) (Tick c.args.seconds) (world_in (whole r bridge))) s (whole r c.tick.new.bridge) c.args.room.now.post.log c.tick.new.room.post.log)) c.requires.0 c.tick.ensures
