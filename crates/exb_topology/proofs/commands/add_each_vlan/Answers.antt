use Rattle.std.proofs.Common.{◌≡◌, ◌++◌, sym, map}
use Rattle.exb_topology.specs.CommandViews.{seen}
use Rattle.exb_topology.specs.Topologies.{vlan_start}
use Rattle.exb_topology.proofs.CommandLists.{parts_more, parts_done}
use Rattle.exb_topology.proofs.commands.add_each_vlan.Goals as goal

pub loop-vlan-preserved : goal.loop-vlan-preserved
loop-vlan-preserved c =
    let f = vlan_start c.args.tree.now in
    let e : map seen c.add_vlan.new.start ≡ map seen c.loop-vlan.start ++ f c.vlan-item.result = c.in_ok-add_vlan.ensures in
    rw e (parts_more f (map seen c.loop-vlan.start) _ c.args.vlans.now c.loop-vlan.vlan-index c.vlan-item.result c.loop-vlan-test.true (sym c.vlan-item.is) c.loop-vlan.invariant)

pub returns : goal.returns
returns c = parts_done (vlan_start c.args.tree.now) (map seen c.loop-vlan.start) _ c.args.vlans.now c.loop-vlan.vlan-index c.loop-vlan-test.false c.loop-vlan.invariant
