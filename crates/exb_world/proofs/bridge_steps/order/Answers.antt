use Rattle.std.proofs.Common.{sym, subst}
use Rattle.std.specs.Prelude.{OnOk}
use Rattle.exb_world_spec.specs.Steps.{done_by}
use Rattle.exb_world_spec.specs.Worlds.{Order}
use Rattle.exb_world_spec.specs.Runs.Requests.{AsksWell}
use Rattle.exb_bridge.specs.TreeIndexes.{limits_in}
use Rattle.exb_bridge.specs.BridgeWorlds.{Rest, whole, world_in, IsAt, Does}
use Rattle.exb_world.proofs.bridge_steps.order.Goals as goal

pub order-requires : goal.order-requires
order-requires g c = (
  subst (λ (r : Rest). IsAt c.args.site.now (whole r c.args.core.now.bridge)) (sym c.requires.0) c.requires.1.0,
  (c.requires.1.1.0, (c.requires.1.1.1.0, subst (λ (r : Rest). AsksWell c.args.site.now.tree (limits_in c.args.site.now) (world_in (whole r c.args.core.now.bridge)).control) (sym c.requires.0) c.requires.1.1.1.1)),
)

pub returns : goal.returns
returns g c =
    let s = c.args.site.now in
    let bridge = c.args.core.now.bridge in
    subst (λ (r : Rest). OnOk c.order.result (Does (done_by s.tree (limits_in s) (Order c.args.command.now) (world_in (whole r bridge))) s (whole r c.order.new.bridge) c.args.room.now.post.log c.order.new.room.post.log)) c.requires.0 c.order.ensures
