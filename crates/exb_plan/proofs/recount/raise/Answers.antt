use Rattle.std.proofs.Common.{◌∙◌, ◌-◌, Some, ap, not}
use Rattle.std.proofs.lemmas.Result.{on_ok_weaker}
use Rattle.exb_model.specs.Ports.{ports_of}
use Rattle.exb_model.specs.Refusals.{is_empty_set}
use Rattle.exb_control_spec.specs.Plans.Sets.{seen}
use Rattle.exb_plan.specs.SpaceContents.{held_by}
use Rattle.exb_control_spec.proofs.Plans.GroupOwners.{IsGroupOf, group_found}
use Rattle.exb_plan.proofs.RecountLemmas.{looked_up, raised_none, raised_one}
use Rattle.exb_plan.proofs.recount.raise.Goals as goal

pub raise-requires-clause-there : goal.raise-requires-clause-there
raise-requires-clause-there c =
    let v = c.args.spaces.now in
    let k = c.args.part.now.bridge_port - 1 in
    let set = ports_of c.args.part.now.set in
    let group = looked_up v k set c.groups.result.now c.find.result (Some c.in-Some.group) c.find.ensures.value c.groups.ensures c.in-Some.is in
    let r : IsGroupOf (held_by v) k set c.in-Some.group = group_found (held_by v) k set c.in-Some.group group in
    c.requires.places k c.in-Some.group c.requires.placed.1 (ap (λ s. not (is_empty_set s)) r.is ∙ ap not r.some)

pub returns-in-Some-clause-counts : goal.returns-in-Some-clause-counts
returns-in-Some-clause-counts c =
    let v = c.args.spaces.now in
    let k = c.args.part.now.bridge_port - 1 in
    let set = ports_of c.args.part.now.set in
    let group = looked_up v k set c.groups.result.now c.find.result (Some c.in-Some.group) c.find.ensures.value c.groups.ensures c.in-Some.is in
    on_ok_weaker c.raise.result (raised_one v c.requires.own (seen c.args.part.now) c.requires.placed c.args.uses.now c.raise.new.self c.in-Some.group group) c.raise.ensures.ok

pub returns-in-None-clause-counts : goal.returns-in-None-clause-counts
returns-in-None-clause-counts c =
    let v = c.args.spaces.now in
    let k = c.args.part.now.bridge_port - 1 in
    let set = ports_of c.args.part.now.set in
    let group = looked_up v k set c.groups.result.now c.find.result _ c.find.ensures.value c.groups.ensures c.in-None.is in
    raised_none v c.requires.own (seen c.args.part.now) c.requires.placed c.args.uses.now group

pub returns-in-Some-clause-met : goal.returns-in-Some-clause-met
returns-in-Some-clause-met c few =
    let v = c.args.spaces.now in
    let k = c.args.part.now.bridge_port - 1 in
    let set = ports_of c.args.part.now.set in
    c.raise.ensures.met (few c.in-Some.group (looked_up v k set c.groups.result.now c.find.result (Some c.in-Some.group) c.find.ensures.value c.groups.ensures c.in-Some.is))
