use Rattle.std.proofs.Common.{refl}
use Rattle.exb_bridge.specs.TreeIndexes.{limits_in}
use Rattle.exb_bridge.specs.BridgeWorlds.{whole}
use Rattle.exb_bridge.proofs.CommandsAndTicks.{ticked}
use Rattle.exb_bridge.proofs.commands.tick.Goals as goal

pub returns : goal.returns
returns g c =
    ticked c.args.site.now (limits_in c.args.site.now) (whole g.rest c.args.bridge.now) c.tick.new.self c.args.seconds c.args.room.now.post.log _ c.tick.ensures.table c.requires.0 c.in_ok-push.ensures.ok refl refl (record { outs = refl; lines = refl; tracing = refl })
