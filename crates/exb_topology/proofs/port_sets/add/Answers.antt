use Rattle.exb_model.specs.Ports.{port_in}
use Rattle.exb_model.specs.Tree.{is_external}
use Rattle.exb_topology.proofs.PortSets.{whole_past}
use Rattle.exb_topology.proofs.port_sets.add.Goals as goal

pub returns-else-extender-lt65 : goal.returns-else-extender-lt65
returns-else-extender-lt65 c q =
    let external = c.external_ports-external.result in
    rw c.in-Whole.is (whole_past (port_in c.args.set.now q) (is_external c.args.tree.now q) external.words q c.in-Whole.extender external.sized c.if-extender-lt65.false (c.external_ports-external.ensures q))
