use Rattle.std.proofs.Common.{◌∙◌, ap, map}
use Rattle.exb_control_spec.specs.Plans.Sets.{seen}
use Rattle.exb_plan.proofs.group_sets.sets.Goals as goal

pub returns : goal.returns
returns c = ap (map seen) c.in_ok-from_slice.ensures.items
    ∙ (ap (map seen) c.as_slice.ensures.keys ∙ c.in_ok-put_sources.ensures c.args.tree.now c.new-branches.ensures c.new-sets.ensures.empty)
