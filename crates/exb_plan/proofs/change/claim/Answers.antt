use Rattle.std.proofs.Common.{◌∙◌, map, ap}
use Rattle.exb_control_spec.specs.Plans.Sets.{seen}
use Rattle.exb_plan.specs.SpaceContents.{held_by}
use Rattle.exb_control_spec.specs.Plans.Plans.{without_channel}
use Rattle.exb_control_spec.specs.Plans.FreshSets.{seen_group}
use Rattle.exb_plan.proofs.ClaimLoop.{alike_more}
use Rattle.exb_plan.proofs.WholePlans.{can_after, later_than, has_up_same}
use Rattle.exb_plan.proofs.change.claim.Goals as goal

pub claim_groups-requires-clause-fresh : goal.claim_groups-requires-clause-fresh
claim_groups-requires-clause-fresh c =
    can_after c.args.tree.now c.claim_up-channel.result c.args.up.now c.args.spaces.now c.claim_up-channel.new.spaces (map seen c.args.fresh.now)
    c.claim_up-channel.ensures.alike c.claim_up-channel.ensures.held c.requires.fresh

pub free_groups-requires : goal.free_groups-requires
free_groups-requires c =
    let can = can_after c.args.tree.now c.claim_up-channel.result c.args.up.now c.args.spaces.now c.claim_up-channel.new.spaces (map seen c.args.fresh.now)
    c.claim_up-channel.ensures.alike c.claim_up-channel.ensures.held c.requires.fresh in (
      held_by c.claim_up-channel.new.spaces,
      later_than c.claim_up-channel.new.spaces c.claim_groups.new.spaces (map seen c.args.fresh.now) (map seen_group c.claim_groups.new.given.items)
          c.claim_groups.ensures.alike can c.claim_groups.ensures.claimed,
    )

pub free_up-requires : goal.free_up-requires
free_up-requires c =
    let can = can_after c.args.tree.now c.claim_up-channel.result c.args.up.now c.args.spaces.now c.claim_up-channel.new.spaces (map seen c.args.fresh.now)
    c.claim_up-channel.ensures.alike c.claim_up-channel.ensures.held c.requires.fresh in
    let later = later_than c.claim_up-channel.new.spaces c.claim_groups.new.spaces (map seen c.args.fresh.now) (map seen_group c.claim_groups.new.given.items)
    c.claim_groups.ensures.alike can c.claim_groups.ensures.claimed in
    has_up_same c.args.tree.now c.claim_up-channel.new.spaces c.free_groups.new.spaces c.args.up.now c.claim_up-channel.result
    (alike_more c.claim_up-channel.new.spaces c.claim_groups.new.spaces c.free_groups.new.spaces c.claim_groups.ensures.alike c.free_groups.ensures.alike)
    (c.free_groups.ensures.held (held_by c.claim_up-channel.new.spaces) later) c.claim_up-channel.ensures.has

pub returns-in-Err-clause-err : goal.returns-in-Err-clause-err
returns-in-Err-clause-err c =
    let can = can_after c.args.tree.now c.claim_up-channel.result c.args.up.now c.args.spaces.now c.claim_up-channel.new.spaces (map seen c.args.fresh.now)
    c.claim_up-channel.ensures.alike c.claim_up-channel.ensures.held c.requires.fresh in
    let later = later_than c.claim_up-channel.new.spaces c.claim_groups.new.spaces (map seen c.args.fresh.now) (map seen_group c.claim_groups.new.given.items)
    c.claim_groups.ensures.alike can c.claim_groups.ensures.claimed in
    c.free_up.ensures.held
    ∙ (ap (without_channel c.args.tree.now c.claim_up-channel.result c.args.up.now) (c.free_groups.ensures.held (held_by c.claim_up-channel.new.spaces) later)
    ∙ c.claim_up-channel.ensures.back)
