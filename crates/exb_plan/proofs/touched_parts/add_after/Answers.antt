use Rattle.std.proofs.Common.{◌∙◌, ◌++◌, List, sym, ap}
use Rattle.std.specs.List.{flat_map}
use Rattle.std.proofs.lemmas.Result.{on_ok_weaker}
use Rattle.exb_model.specs.declared.command.Command.{Command}
use Rattle.exb_model.specs.Ports.{port_in}
use Rattle.exb_model.specs.Refusals.{Source, both_kinds}
use Rattle.exb_config.specs.Tables.{bridge_of}
use Rattle.exb_control_spec.specs.Plans.TouchedParts.{touched_after}
use Rattle.exb_plan.specs.TouchedSources.{vlans_touched, entry_touched}
use Rattle.exb_plan.proofs.PartLists.{adds_more, adds_same}
use Rattle.exb_plan.proofs.TouchedSources.{touched_is, same_after}
use Rattle.exb_plan.proofs.touched_parts.add_after.Goals as goal

pub returns-in-Static : goal.returns-in-Static
returns-in-Static g c t here branches old so_far =
    let b = bridge_of c.args.config.now in
    let d = g.V.View.bridge c.args.view.now in
    let put = c.in-Static in
    let own : List Source = both_kinds put.vid (port_in put.ports) in
    on_ok_weaker c.add_entry.result
    (λ more. adds_same t d here (vlans_touched c.args.command.now b ++ own) (touched_after c.args.command.now b) old c.add_entry.new.parts.items
    (ap (λ (l : List Source). l ++ own) (ap (λ (k : Command). vlans_touched k b) put.is) ∙ ap (λ (k : Command). touched_after k b) (sym put.is))
    (adds_more t d here (vlans_touched c.args.command.now b) own old c.args.parts.now.items c.add_entry.new.parts.items so_far more))
    (c.add_entry.ensures t here branches)

pub returns-in-Unstatic : goal.returns-in-Unstatic
returns-in-Unstatic g c t here branches old so_far =
    let b = bridge_of c.args.config.now in
    let d = g.V.View.bridge c.args.view.now in
    adds_same t d here (vlans_touched c.args.command.now b) (touched_after c.args.command.now b) old c.args.parts.now.items
    (ap (λ (k : Command). vlans_touched k b) c.in-Unstatic.is ∙ ap (λ (k : Command). touched_after k b) (sym c.in-Unstatic.is)) so_far

pub returns-in_default : goal.returns-in_default
returns-in_default g c t here branches old so_far =
    let b = bridge_of c.args.config.now in
    let d = g.V.View.bridge c.args.view.now in
    let command = c.args.command.now in
    let own : List Source = flat_map (entry_touched command b) b.statics in
    on_ok_weaker c.add_entries.result
    (λ more. adds_same t d here (vlans_touched command b ++ own) (touched_after command b) old c.add_entries.new.parts.items
    (sym (same_after b command c.in_default.not-Static c.in_default.not-Unstatic ∙ touched_is b command c.in_default.not-Static))
    (adds_more t d here (vlans_touched command b) own old c.args.parts.now.items c.add_entries.new.parts.items so_far more))
    (c.add_entries.ensures t here branches)
