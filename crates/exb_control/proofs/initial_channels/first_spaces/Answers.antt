use Rattle.exb_model.specs.Setup.{Limits}
use Rattle.exb_plan.proofs.WholePlans.{alike_has}
use Rattle.exb_control.proofs.FirstSpaces.{new_has, new_none}
use Rattle.exb_control.proofs.initial_channels.first_spaces.Goals as goal

pub claim_all-requires-clause-limits : goal.claim_all-requires-clause-limits
claim_all-requires-clause-limits c =
    let l : Limits = record { channels = c.args.channels; groups = c.args.groups } in
    (l, new_has c.args.tree.now l c.in_ok-spaces.spaces c.in_ok-spaces.ensures.spaces c.in_ok-spaces.ensures.channels c.in_ok-spaces.ensures.limits, c.requires.channels)

pub claim_all-requires-clause-none : goal.claim_all-requires-clause-none
claim_all-requires-clause-none c =
    let l : Limits = record { channels = c.args.channels; groups = c.args.groups } in
    new_none c.args.tree.now l c.in_ok-spaces.spaces c.in_ok-spaces.ensures.spaces c.in_ok-spaces.ensures.channels c.in_ok-spaces.ensures.groups

pub returns : goal.returns
returns c =
    let l : Limits = record { channels = c.args.channels; groups = c.args.groups } in
    let has = new_has c.args.tree.now l c.in_ok-spaces.spaces c.in_ok-spaces.ensures.spaces c.in_ok-spaces.ensures.channels c.in_ok-spaces.ensures.limits in
    let claimed = c.claim_all.ensures in
    record {
      spaces = alike_has c.args.tree.now l c.in_ok-spaces.spaces c.claim_all.new.spaces claimed.alike has;
      held = claimed.held l has;
      first = claimed.first;
    }
