use Rattle.std.proofs.Common.{[], ◌∷◌}
use Rattle.std.proofs.lemmas.Result.{on_ok_weaker}
use Rattle.exb_model.specs.declared.vlan.Kind.TheVariants.{Tagged, Untagged}
use Rattle.exb_model.specs.Refusals.{Source}
use Rattle.exb_plan.proofs.PartLists.{adds_more}
use Rattle.exb_plan.proofs.parts.put_kinds.Goals as goal

pub returns : goal.returns
returns g c t here test branches is_among =
    let b = g.V.View.bridge c.args.view.now in
    let x : Source = record { vid = c.args.vid; kind = Tagged; among = test } in
    let y : Source = record { vid = c.args.vid; kind = Untagged; among = test } in
    on_ok_weaker c.put_kind-2.result
    (adds_more t b here (x ∷ []) (y ∷ []) c.args.parts.now.items c.put_kind.new.parts.items c.put_kind-2.new.parts.items (c.in_ok-put_kind.ensures t here test branches is_among))
    (c.put_kind-2.ensures t here test branches is_among)
