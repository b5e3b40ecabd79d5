use Rattle.std.proofs.Common.{◌∙◌, sym, [], filter}
use Rattle.exb_model.specs.Ports.{port_in}
use Rattle.exb_model.specs.Refusals.{both_kinds}
use Rattle.exb_config.specs.Tables.{bridge_of}
use Rattle.exb_control_spec.specs.Plans.TouchedParts.{has_port}
use Rattle.exb_plan.proofs.PartLists.{adds_none, adds_same}
use Rattle.exb_plan.proofs.TouchedSources.{kinds_apart}
use Rattle.exb_plan.proofs.touched_parts.add_entry_with.Goals as goal

pub returns-else-contains : goal.returns-else-contains
returns-else-contains g c t here branches =
    let b = bridge_of c.args.config.now in
    let d = g.V.View.bridge c.args.view.now in
    let e = c.args.entry.now in
    adds_same t d here [] (filter (has_port b c.args.port) (both_kinds e.vid (port_in e.ports))) c.args.parts.now.items c.args.parts.now.items
    (sym (kinds_apart b c.args.port e.vid (port_in e.ports) (sym c.contains.ensures ∙ c.if-contains.false))) (adds_none t d here c.args.parts.now.items)
