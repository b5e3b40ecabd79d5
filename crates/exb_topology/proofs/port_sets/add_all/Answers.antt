use Rattle.std.proofs.Common.{◌∙◌, ◌||◌, ◌&&◌, ◌==◌, ◌/◌, ap, arith}
use Rattle.exb_model.specs.Ports.{port_in}
use Rattle.exb_topology.proofs.PortSets.{devices_more, devices_all}
use Rattle.exb_topology.proofs.port_sets.add_all.Goals as goal

pub loop-device-preserved : goal.loop-device-preserved
loop-device-preserved c q =
    c.add_device.ensures q ∙ ap (λ b. b || (q / 64 == c.loop-device.device && port_in c.args.from.now q)) (c.loop-device.invariant q) ∙ devices_more (port_in c.args.set.now q) (port_in c.args.from.now q) (q / 64) c.loop-device.device

pub returns : goal.returns
returns c q = c.loop-device.invariant q ∙ devices_all (port_in c.args.set.now q) c.args.from.now.words q c.loop-device.device c.args.from.now.sized (omega (arith, c.loop-device-test.false, c.loop-device.auto.device-end))
