use Rattle.std.proofs.Common.{sym, subst}
use Rattle.std.specs.Prelude.{OnOk}
use Rattle.exb_world_spec.specs.DataFrames.{comes}
use Rattle.exb_bridge.specs.BridgeWorlds.{Rest, whole, world_in, IsAt, Does}
use Rattle.exb_world.proofs.bridge_steps.come.Goals as goal

pub come-requires : goal.come-requires
come-requires g c = (
  subst (λ (r : Rest). IsAt c.args.site.now (whole r c.args.core.now.bridge)) (sym c.requires.0) c.requires.1.0,
  c.requires.1.1,
)

pub returns : goal.returns
returns g c =
    let s = c.args.site.now in
    let bridge = c.args.core.now.bridge in
    subst (λ (r : Rest). OnOk c.come.result (Does (comes s.tree c.args.arrival.now (world_in (whole r bridge))) s (whole r c.come.new.bridge) c.args.room.now.post.log c.come.new.room.post.log)) c.requires.0 c.come.ensures
