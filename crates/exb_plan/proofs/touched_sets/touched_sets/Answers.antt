use Rattle.std.proofs.Common.{◌∙◌, List, [], not, filter, map, fold, ap}
use Rattle.exb_model.specs.Configuration.{after}
use Rattle.exb_config.specs.Tables.{bridge_of}
use Rattle.exb_control_spec.specs.declared.plan.set_at.SetAt.{SetAt}
use Rattle.exb_control_spec.specs.Plans.Sets.{seen, with_set_at}
use Rattle.exb_control_spec.specs.Plans.TouchedParts.{parts_after}
use Rattle.exb_plan.specs.SpaceContents.{held_by}
use Rattle.exb_control_spec.specs.Plans.FreshSets.{has_group}
use Rattle.exb_plan.proofs.TouchedSets.{after_within, some_below, parts_placed, fresh_made}
use Rattle.exb_plan.proofs.touched_sets.touched_sets.Goals as goal

pub without_group-requires : goal.without_group-requires
without_group-requires c =
    let t = c.args.tree.now in
    let b = bridge_of c.args.config.now in
    let v = c.args.spaces.now in
    parts_placed t v c.requires.spaces c.as_slice.result.now _ (ap (map seen) c.as_slice.ensures.value ∙ c.in_ok-parts.ensures.later)
    (some_below t c.is_tree.ensures (after c.args.command.now b) (parts_after t c.args.command.now b) (after_within t c.args.command.now b))

pub returns : goal.returns
returns c =
    let unfound = c.in_ok-unfound.ensures ∙ ap (λ (xs : List SetAt). filter (λ s. not (has_group (held_by c.args.spaces.now) s)) (map seen xs)) c.as_slice.ensures.value in
    record {
      before = c.in_ok-parts.ensures.before;
      later = c.in_ok-parts.ensures.later;
      unfound = unfound;
      fresh =
          fresh_made c.args.tree.now c.is_tree.ensures c.args.command.now (bridge_of c.args.config.now) (held_by c.args.spaces.now) c.requires.held
          (map seen c.in_ok-fresh.fresh.items) (map seen c.in_ok-unfound.unfound.items) (map seen c.in_ok-parts.parts.later.items)
          (c.in_ok-fresh.ensures ∙ ap (λ (xs : List SetAt). fold with_set_at [] (map seen xs)) c.as_slice-2.ensures.value) unfound c.in_ok-parts.ensures.later;
    }
