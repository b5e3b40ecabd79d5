use Rattle.std.proofs.Common.{◌-◌, Some, None}
use Rattle.exb_model.specs.Ports.{ports_of}
use Rattle.exb_control_spec.specs.Plans.Sets.{seen}
use Rattle.exb_plan.proofs.RecountLemmas.{looked_up, lowered_none, lowered_one, none_else}
use Rattle.exb_plan.proofs.recount.lower.Goals as goal

pub lower-requires-clause-used : goal.lower-requires-clause-used
lower-requires-clause-used c =
    let v = c.args.spaces.now in
    let k = c.args.part.now.bridge_port - 1 in
    let set = ports_of c.args.part.now.set in
    c.requires.used c.in-Some.group (looked_up v k set c.groups.result.now c.find.result (Some c.in-Some.group) c.find.ensures.value c.groups.ensures c.in-Some.is)

pub returns-in-Some-clause-counts : goal.returns-in-Some-clause-counts
returns-in-Some-clause-counts c =
    let v = c.args.spaces.now in
    let k = c.args.part.now.bridge_port - 1 in
    let set = ports_of c.args.part.now.set in
    let group = looked_up v k set c.groups.result.now c.find.result (Some c.in-Some.group) c.find.ensures.value c.groups.ensures c.in-Some.is in
    lowered_one v c.requires.own (seen c.args.part.now) c.requires.placed c.args.uses.now c.lower.new.self c.in-Some.group group (c.requires.used c.in-Some.group group) c.lower.ensures.counts

pub returns-in_default-clause-counts : goal.returns-in_default-clause-counts
returns-in_default-clause-counts c =
    let v = c.args.spaces.now in
    let k = c.args.part.now.bridge_port - 1 in
    let set = ports_of c.args.part.now.set in
    let group = looked_up v k set c.groups.result.now c.find.result None c.find.ensures.value c.groups.ensures (none_else c.find.result c.in_default.not-Some) in
    lowered_none v c.requires.own (seen c.args.part.now) c.requires.placed c.args.uses.now group
