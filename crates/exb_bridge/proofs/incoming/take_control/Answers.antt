use Rattle.std.proofs.Common.{◌-◌, ap, sym, subst, ◌∙◌}
use Rattle.exb_model.specs.Tree.{Shape, IsTree}
use Rattle.exb_model.proofs.TreeTrunks.{hung_cascade}
use Rattle.exb_world_spec.specs.ExtenderSteps.{hung_on}
use Rattle.exb_world_spec.proofs.Trunks.{extender_there, hung_is}
use Rattle.exb_bridge.proofs.incoming.take_control.Goals as goal

pub holder-requires : goal.holder-requires
holder-requires g c = (
  c.requires.0,
  (c.requires.1.0, (c.requires.1.1.0, hung_cascade c.args.site.now.tree (subst IsTree c.tree-tree.ensures c.is_tree.ensures) c.args.below (c.args.bridge_port - 1) c.requires.1.1.1.0)),
)

pub hear-requires-2 : goal.hear-requires-2
hear-requires-2 g c =
    let t = c.args.site.now.tree in
    let port = c.in-Some.port in
    let number = c.in-Some-hung_on.number in
    (c.requires.0, (extender_there t number port (hung_is t port number (ap (λ (u : Shape). hung_on u port) (sym c.tree-tree.ensures) ∙ sym c.hung_on.ensures ∙ c.in-Some-hung_on.is)), c.requires.1.1.1.1))
