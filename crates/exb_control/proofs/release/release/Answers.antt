use Rattle.std.proofs.Common.{◌∙◌, ◌≤◌, [], List, length, refl, ap}
use Rattle.std.proofs.lemmas.List.{take_all}
use Rattle.exb_control_spec.specs.declared.plan.change.Number.{Number}
use Rattle.exb_plan.specs.SpaceContents.{held_by}
use Rattle.exb_plan.proofs.ClaimLoop.{alike_more}
use Rattle.exb_plan.proofs.WholePlans.{alike_has}
use Rattle.exb_control_spec.specs.Plans.HeldNumbers.{in_spaces}
use Rattle.exb_control.proofs.FreedNumbers.{released, channel_step, group_step}
use Rattle.exb_control.proofs.release.release.Goals as goal

pub loop-number-init : goal.loop-number-init
loop-number-init c = record { held = refl; alike = record { spaces = λ k. refl; channels = λ k. refl; groups = λ k. refl } }

pub release_channel-requires : goal.release_channel-requires
release_channel-requires c = (c.requires.0, alike_has c.args.tree.now c.requires.0 c.args.spaces.now c.loop-number.spaces c.loop-number.invariant.alike c.requires.1)

pub loop-number-preserved : goal.loop-number-preserved
loop-number-preserved c = record {
  held = channel_step c.as_slice-channels.result.now c.loop-number.number-index _ [] _ _ _ c.loop-number-test.true c.loop-number.invariant.held c.release_channel.ensures.held;
  alike = alike_more c.args.spaces.now c.loop-number.spaces c.release_channel.new.spaces c.loop-number.invariant.alike c.release_channel.ensures.alike;
}

pub loop-number-2-init : goal.loop-number-2-init
loop-number-2-init c =
    let h = in_spaces c.args.tree.now (held_by c.args.spaces.now) in
    let xs = c.as_slice-channels.result.now in
    let end : length xs ≤ c.loop-number.number-index = c.loop-number-test.false in
    record {
      held = c.loop-number.invariant.held ∙ ap (λ (l : List Number). released l [] h) (take_all c.loop-number.number-index xs end ∙ c.as_slice-channels.ensures);
      alike = c.loop-number.invariant.alike;
    }

pub release_group-requires : goal.release_group-requires
release_group-requires c = (c.requires.0, alike_has c.args.tree.now c.requires.0 c.args.spaces.now c.loop-number-2.spaces c.loop-number-2.invariant.alike c.requires.1)

pub loop-number-2-preserved : goal.loop-number-2-preserved
loop-number-2-preserved c = record {
  held = group_step c.args.change.now.channels c.as_slice-groups.result.now c.loop-number-2.number-index _ _ _ _ c.loop-number-2-test.true c.loop-number-2.invariant.held c.release_group.ensures.held;
  alike = alike_more c.args.spaces.now c.loop-number-2.spaces c.release_group.new.spaces c.loop-number-2.invariant.alike c.release_group.ensures.alike;
}

pub returns : goal.returns
returns c =
    let h = in_spaces c.args.tree.now (held_by c.args.spaces.now) in
    let xs = c.as_slice-groups.result.now in
    let end : length xs ≤ c.loop-number-2.number-index = c.loop-number-2-test.false in
    record {
      held = c.loop-number-2.invariant.held ∙ ap (λ (l : List Number). released c.args.change.now.channels l h) (take_all c.loop-number-2.number-index xs end ∙ c.as_slice-groups.ensures);
      alike = c.loop-number-2.invariant.alike;
    }
