use Rattle.std.proofs.Common.{◌∙◌, ap, List, map, fold, true}
use Rattle.std.specs.List.{flat_map}
use Rattle.std.proofs.lemmas.Result.{on_ok_weaker}
use Rattle.exb_model.specs.Refusals.{both_kinds, all_vids}
use Rattle.exb_config.specs.Tables.{bridge_of}
use Rattle.exb_control_spec.specs.declared.plan.set_at.SetAt.{SetAt}
use Rattle.exb_control_spec.specs.Plans.Sets.{seen, with_set_at, parts_below}
use Rattle.exb_plan.proofs.SetFolds.{all_put}
use Rattle.exb_plan.proofs.group_sets.put_sources.Goals as goal

pub returns : goal.returns
returns c t are none =
    let b = bridge_of c.args.config.now in
    let vlans = c.in_ok-put_vlans.ensures t are
    ∙ ap (λ (s : List SetAt). fold with_set_at (map seen s) (flat_map (parts_below t b) (flat_map (λ v. both_kinds v (λ q. true)) all_vids))) none in
    on_ok_weaker c.put_statics.result (λ all. all_put t b (map seen c.put_vlans.new.sets.keys) (map seen c.put_statics.new.sets.keys) vlans all) (c.put_statics.ensures t are)
