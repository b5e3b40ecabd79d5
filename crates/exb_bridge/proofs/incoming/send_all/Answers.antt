use Rattle.std.specs.Prelude.{None}
use Rattle.exb_model.specs.declared.vlan.Kind.TheVariants as kind
use Rattle.exb_world_spec.specs.Effects.{each}
use Rattle.exb_world_spec.specs.DataFrames.{sends_in}
use Rattle.exb_bridge.specs.BridgeWorlds.{whole, world_in}
use Rattle.exb_bridge.proofs.RelayedFrames.{read_leads}
use Rattle.exb_bridge.proofs.incoming.send_all.Goals as goal

pub loop-one-preserved : goal.loop-one-preserved
loop-one-preserved g c =
    let f = sends_in c.args.site.now.tree c.args.arrival.now c.args.tag.now.vid in
    let xs = c.args.sends.now in
    let does = c.in_ok-send.ensures in (
      read_leads f (each f xs (world_in (whole g.rest c.args.bridge.now))) xs c.loop-one.one-index (record { bridge_port = 0; tag = None; kind = kind.Tagged }) c.args.site.now (whole g.rest c.loop-one.bridge) (whole g.rest c.send.new.bridge) c.args.post.now.log
          c.loop-one.post.log c.send.new.post.log c.loop-one-test.true c.loop-one.invariant.0 does,
      does.at,
    )
