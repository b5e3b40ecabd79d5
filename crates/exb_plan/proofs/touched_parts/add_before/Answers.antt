use Rattle.std.proofs.Common.{◌∙◌, ◌++◌, List, sym, ap}
use Rattle.std.specs.Option.{option_copied}
use Rattle.std.specs.List.{flat_map}
use Rattle.std.proofs.lemmas.Result.{on_ok_weaker}
use Rattle.exb_model.specs.declared.command.Command.{Command}
use Rattle.exb_model.specs.Ports.{port_in}
use Rattle.exb_model.specs.Refusals.{Source, both_kinds}
use Rattle.exb_config.specs.Tables.{bridge_of}
use Rattle.exb_control_spec.specs.Plans.TouchedParts.{touched_before}
use Rattle.exb_plan.specs.TouchedSources.{vlans_touched, entry_touched}
use Rattle.exb_plan.proofs.PartLists.{adds_more, adds_same}
use Rattle.exb_plan.proofs.TouchedSources.{touched_is, entry_there, entry_none}
use Rattle.exb_plan.proofs.touched_parts.add_before.Goals as goal

pub returns-in-Some : goal.returns-in-Some
returns-in-Some g c t here branches old so_far =
    let b = bridge_of c.args.config.now in
    let d = g.V.View.bridge c.args.view.now in
    let put = c.in-Static in
    let own : List Source = both_kinds put.vid (port_in c.in-Some.ports.now) in
    let none = ap (λ (k : Command). vlans_touched k b) put.is in
    let there = entry_there put.vid put.address.0 b.statics c.in-Some.ports.now (sym c.entry.ensures ∙ ap option_copied c.in-Some.is) in
    on_ok_weaker c.add_entry.result
    (λ more. adds_same t d here (vlans_touched c.args.command.now b ++ own) (touched_before c.args.command.now b) old c.add_entry.new.parts.items
    (ap (λ (l : List Source). l ++ own) none ∙ (there ∙ ap (λ (k : Command). touched_before k b) (sym put.is)))
    (adds_more t d here (vlans_touched c.args.command.now b) own old c.args.parts.now.items c.add_entry.new.parts.items so_far more))
    (c.add_entry.ensures t here branches)

pub returns-in-None : goal.returns-in-None
returns-in-None g c t here branches old so_far =
    let b = bridge_of c.args.config.now in
    let d = g.V.View.bridge c.args.view.now in
    let put = c.in-Static in
    let none = entry_none put.vid put.address.0 b.statics (sym c.entry.ensures ∙ ap option_copied c.in-None.is) in
    adds_same t d here (vlans_touched c.args.command.now b) (touched_before c.args.command.now b) old c.args.parts.now.items
    (ap (λ (k : Command). vlans_touched k b) put.is ∙ (sym none ∙ ap (λ (k : Command). touched_before k b) (sym put.is))) so_far

pub returns-in_default : goal.returns-in_default
returns-in_default g c t here branches old so_far =
    let b = bridge_of c.args.config.now in
    let d = g.V.View.bridge c.args.view.now in
    let command = c.args.command.now in
    let own : List Source = flat_map (entry_touched command b) b.statics in
    on_ok_weaker c.add_entries.result
    (λ more. adds_same t d here (vlans_touched command b ++ own) (touched_before command b) old c.add_entries.new.parts.items (sym (touched_is b command c.in_default.not-Static))
    (adds_more t d here (vlans_touched command b) own old c.args.parts.now.items c.add_entries.new.parts.items so_far more))
    (c.add_entries.ensures t here branches)
