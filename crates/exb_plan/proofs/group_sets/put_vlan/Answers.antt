use Rattle.std.proofs.Common.{◌∙◌, ap, true, List, map, fold}
use Rattle.std.proofs.lemmas.Result.{on_ok_weaker}
use Rattle.exb_model.specs.Refusals.{both_kinds}
use Rattle.exb_config.specs.Tables.{bridge_of}
use Rattle.exb_control_spec.specs.declared.plan.set_at.SetAt.{SetAt}
use Rattle.exb_control_spec.specs.Plans.Sets.{with_set_at, seen}
use Rattle.exb_plan.proofs.SetFolds.{gathered}
use Rattle.exb_plan.proofs.group_sets.put_vlan.Goals as goal

pub returns : goal.returns
returns c t test branches is_among =
    let b = bridge_of c.args.config.now in
    let old = map seen c.args.sets.now.keys in
    on_ok_weaker c.put_all_once.result
    (λ put. put ∙ (ap (λ (xs : List SetAt). fold with_set_at old (map seen xs)) c.as_slice.ensures.value
    ∙ gathered t b (both_kinds c.args.vid test) c.new-parts.result.items c.put_kinds.new.parts.items old c.new-parts.ensures.items
    (c.in_ok-put_kinds.ensures t (λ k. true) test branches is_among)))
    c.put_all_once.ensures
