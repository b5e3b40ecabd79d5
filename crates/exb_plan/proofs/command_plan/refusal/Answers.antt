use Rattle.std.proofs.Common.{◌≡◌, true, Option, ℕ, subst}
use Rattle.exb_model.specs.Tree.{is_extended}
use Rattle.exb_control_spec.specs.Plans.FreshSets.{IsAnyExtended}
use Rattle.exb_plan.proofs.SpaceContents.{home_space_at}
use Rattle.exb_plan.proofs.command_plan.refusal.Goals as goal

pub channels_short-short-requires-clause-cascade : goal.channels_short-short-requires-clause-cascade
channels_short-short-requires-clause-cascade c =
    let t = c.args.tree.now in
    let ext : is_extended t c.in-Some.port ≡ true = subst (λ (o : Option ℕ). IsAnyExtended t o) c.in-Some.is c.requires.up in
    home_space_at t c.is_tree.ensures c.args.spaces.now c.in-Some.port c.requires.spaces ext
