use Rattle.std.proofs.Common.{◌≡◌, ℕ, [], ◌∷◌, ◌++◌, ap, sym, subst, ◌∙◌}
use Rattle.std.specs.Prelude.{None}
use Rattle.exb_csp.specs.AllTables.{port_of}
use Rattle.exb_world_spec.specs.ExtenderSteps.{hung_on}
use Rattle.exb_model.specs.Tree.{Shape}
use Rattle.exb_outbox.specs.PortMaps.{ports_in}
use Rattle.exb_world.proofs.ExtenderEgress.{bare_port}
use Rattle.exb_world.proofs.extender_sends.joins_at.Goals as goal

pub returns-clause-joined : goal.returns-clause-joined
returns-clause-joined c e =
    let n = c.args.number in
    let k = c.args.port in
    let bare = bare_port c.tree-tree.result.now c.is_tree.ensures n k c.at.result c.at.ensures (sym c.is_cascade.ensures ∙ c.if-is_cascade.false) in
    record {
      bare = subst (λ (t : Shape). hung_on t (port_of n k) ≡ None) c.tree-tree.ensures bare;
      device = c.put.ensures.device ∙ c.requires.device;
      ports = c.put.ensures.ports ∙ ap (λ (m : ℕ). ports_in c.args.row.now ++ port_of m k ∷ []) c.requires.device;
    }
