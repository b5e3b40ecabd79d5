use Rattle.std.proofs.Common.{◌≡◌, ◌++◌, sym, map}
use Rattle.exb_topology.specs.CommandViews.{seen}
use Rattle.exb_topology.specs.Topologies.{port_start}
use Rattle.exb_topology.proofs.CommandLists.{parts_more, parts_done}
use Rattle.exb_topology.proofs.commands.add_ports.Goals as goal

pub loop-port-preserved : goal.loop-port-preserved
loop-port-preserved c =
    let e : map seen c.add_rules.new.start ≡ map seen c.loop-port.start ++ port_start c.port-item.result = c.in_ok-add_rules.ensures in
    rw e (parts_more port_start (map seen c.loop-port.start) _ c.args.ports.now c.loop-port.port-index c.port-item.result c.loop-port-test.true (sym c.port-item.is) c.loop-port.invariant)

pub returns : goal.returns
returns c = parts_done port_start (map seen c.loop-port.start) _ c.args.ports.now c.loop-port.port-index c.loop-port-test.false c.loop-port.invariant
