use Rattle.std.proofs.Common.{ap, arith, ◌∙◌}
use Rattle.exb_model.specs.Tree.{is_cascade}
use Rattle.exb_numbers.proofs.SpacesByPort.{built_none, built_more, all_spaces, spaced}
use Rattle.exb_numbers.proofs.spaces.Spaces.new.Goals as goal

pub loop-number-init : goal.loop-number-init
loop-number-init c = built_none c.args.tree.now c.args.channels c.args.groups _ c.new.ensures.items c.new-2.ensures.items c.new-3.ensures.items

pub loop-number-preserved : goal.loop-number-preserved
loop-number-preserved c =
    built_more c.args.tree.now c.args.channels c.args.groups c.loop-number.spaces c.add.new.self c.loop-number.number c.is_cascade-is_cascade.result c.loop-number.invariant
    (c.is_cascade-is_cascade.ensures ∙ ap (is_cascade c.args.tree.now) (omega (arith, c.at.ensures))) c.in_ok-add.ensures

pub returns-clause-spaces : goal.returns-clause-spaces
returns-clause-spaces c = all_spaces c.args.tree.now c.args.channels c.args.groups c.loop-number.spaces c.loop-number.number c.loop-number.invariant (omega arith)

pub returns-clause-channels : goal.returns-clause-channels
returns-clause-channels c k has = let s = spaced c.loop-number.spaces k has in let z = c.loop-number.invariant.channels_len in c.loop-number.invariant.channels_free k (omega (arith, s.0, z)) s.1

pub returns-clause-groups : goal.returns-clause-groups
returns-clause-groups c k has = let s = spaced c.loop-number.spaces k has in let z = c.loop-number.invariant.channels_len in c.loop-number.invariant.groups_free k (omega (arith, s.0, z)) s.1

pub returns-clause-limits : goal.returns-clause-limits
returns-clause-limits c k has = let s = spaced c.loop-number.spaces k has in let z = c.loop-number.invariant.channels_len in c.loop-number.invariant.limit k (omega (arith, s.0, z)) s.1
