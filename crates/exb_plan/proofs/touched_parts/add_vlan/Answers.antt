use Rattle.std.proofs.Common.{sym, true, filter}
use Rattle.std.proofs.lemmas.Result.{on_ok_weaker}
use Rattle.exb_model.specs.Refusals.{both_kinds}
use Rattle.exb_plan.specs.TouchedSources.{is_of, sources_of_vlans}
use Rattle.exb_plan.proofs.PartLists.{all_among, adds_same}
use Rattle.exb_plan.proofs.TouchedSources.{one_vlan}
use Rattle.exb_plan.proofs.touched_parts.add_vlan.Goals as goal

pub returns : goal.returns
returns g c t here branches =
    let d = g.V.View.bridge c.args.view.now in
    on_ok_weaker c.put_kinds.result
    (adds_same t d here (both_kinds c.args.vid (λ q. true)) (filter (is_of c.args.vid) sources_of_vlans) c.args.parts.now.items c.put_kinds.new.parts.items
    (sym (one_vlan c.args.vid c.is_numbered.ensures.0 c.is_numbered.ensures.1)))
    (c.put_kinds.ensures t here (λ q. true) branches (all_among t d c.args.branches.now branches))
