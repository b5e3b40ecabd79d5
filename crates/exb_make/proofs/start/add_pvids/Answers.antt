use Rattle.std.proofs.Common.{sym}
use Rattle.exb_make.specs.DrawOrder.{pvid, pvids}
use Rattle.exb_make.specs.GeneratedTree.{site_ports}
use Rattle.exb_make.proofs.DrawLoops.{adds-none, adds-item, adds-all}
use Rattle.exb_make.proofs.start.add_pvids.Goals as goal

pub loop-port-init : goal.loop-port-init
loop-port-init c = adds-none pvid c.args.start.now c.args.rng.now

pub loop-port-preserved : goal.loop-port-preserved
loop-port-preserved c =
    adds-item pvid c.args.places.now c.loop-port.port-index c.port-item.result c.args.start.now c.loop-port.start c.add_pvid.new.start
    c.args.rng.now c.loop-port.rng c.add_pvid.new.rng c.loop-port-test.true (sym c.port-item.is) c.loop-port.invariant c.in_ok-add_pvid.ensures

pub returns : goal.returns
unfolding pvids
returns c =
    adds-all pvid c.args.places.now site_ports c.loop-port.port-index c.args.start.now c.loop-port.start c.args.rng.now c.loop-port.rng
    c.loop-port-test.false c.requires c.loop-port.invariant
