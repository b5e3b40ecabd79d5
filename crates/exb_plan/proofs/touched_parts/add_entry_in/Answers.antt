use Rattle.std.proofs.Common.{◌∙◌, sym, [], filter}
use Rattle.std.proofs.lemmas.Result.{on_ok_weaker}
use Rattle.exb_model.specs.Ports.{port_in}
use Rattle.exb_model.specs.Refusals.{both_kinds}
use Rattle.exb_plan.specs.TouchedSources.{is_of}
use Rattle.exb_plan.proofs.PartLists.{adds_none, adds_same}
use Rattle.exb_plan.proofs.TouchedSources.{kinds_of, kinds_off}
use Rattle.exb_plan.proofs.touched_parts.add_entry_in.Goals as goal

pub returns-else-number : goal.returns-else-number
returns-else-number g c t here branches =
    let d = g.V.View.bridge c.args.view.now in
    let e = c.args.entry.now in
    adds_same t d here [] (filter (is_of c.args.vid) (both_kinds e.vid (port_in e.ports))) c.args.parts.now.items c.args.parts.now.items
    (sym (kinds_off c.args.vid e.vid (port_in e.ports) (λ h. c.if-number.false (c.number.ensures.value ∙ (h ∙ sym c.number-2.ensures.value))))) (adds_none t d here c.args.parts.now.items)

pub returns-then-number : goal.returns-then-number
returns-then-number g c t here branches =
    let d = g.V.View.bridge c.args.view.now in
    let e = c.args.entry.now in
    on_ok_weaker c.add_entry.result
    (adds_same t d here (both_kinds e.vid (port_in e.ports)) (filter (is_of c.args.vid) (both_kinds e.vid (port_in e.ports))) c.args.parts.now.items c.add_entry.new.parts.items
    (sym (kinds_of c.args.vid e.vid (port_in e.ports) (sym c.number.ensures.value ∙ (c.if-number.true ∙ c.number-2.ensures.value)))))
    (c.add_entry.ensures t here branches)
