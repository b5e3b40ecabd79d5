use Rattle.std.proofs.Common.{true, refl}
use Rattle.exb_config.specs.Tables.{bridge_of}
use Rattle.exb_plan.proofs.PartLists.{all_among}
use Rattle.exb_plan.proofs.touched_parts.add_vlan_with.Goals as goal

pub returns-clause-before : goal.returns-clause-before
returns-clause-before g c t here branches =
    c.in_ok-add_kind_with.ensures t here (λ q. true) branches (all_among t (bridge_of c.args.config.now) c.args.branches.now branches) refl

pub returns-clause-later : goal.returns-clause-later
returns-clause-later g c t here branches =
    c.in_ok-add_kind_with-2.ensures t here (λ q. true) branches (all_among t (g.V.View.bridge c.args.view.now) c.args.branches_later.now branches) refl
