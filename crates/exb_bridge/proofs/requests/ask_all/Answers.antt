use Rattle.exb_world_spec.specs.Effects.{each}
use Rattle.exb_world_spec.specs.ControlFrames.{asks}
use Rattle.exb_bridge.specs.BridgeWorlds.{whole, world_in}
use Rattle.exb_bridge.proofs.EffectLoops.{each_leads}
use Rattle.exb_bridge.proofs.requests.ask_all.Goals as goal

pub loop-one-preserved : goal.loop-one-preserved
loop-one-preserved g c =
    let t = c.args.site.now.tree in
    let xs = c.args.asked.now in
    let done = c.in_ok-ask.ensures in (
      each_leads (asks t) (each (asks t) xs (world_in (whole g.rest c.args.bridge.now))) xs c.loop-one.one-index c.one-item.result c.args.site.now (whole g.rest c.loop-one.bridge) (whole g.rest c.ask.new.bridge) c.args.post.now.log c.loop-one.post.log c.ask.new.post.log
          c.loop-one-test.true c.one-item.is c.loop-one.invariant.0 done,
      done.at,
    )
