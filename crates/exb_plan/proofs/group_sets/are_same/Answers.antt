use Rattle.exb_model.specs.Ports.{ports_of}
use Rattle.exb_plan.proofs.SetPorts.{same_ports}
use Rattle.exb_plan.proofs.PartLists.{place_is}
use Rattle.exb_plan.proofs.group_sets.are_same.Goals as goal

pub returns-then-one-other : goal.returns-then-one-other
returns-then-one-other c same =
    let one = c.args.one.now in
    let other = c.args.other.now in
    place_is one.bridge_port other.bridge_port (ports_of one.set) (ports_of other.set) c.if-one-other.true (same_ports one.set other.set (c.is_same.ensures.0 same))
