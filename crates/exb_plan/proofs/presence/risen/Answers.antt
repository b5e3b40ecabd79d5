use Rattle.std.proofs.Common.{◌≡◌, ◌∙◌, ◌&&◌, Bool, true, false, not, refl, sym, ap}
use Rattle.std.proofs.lemmas.Bool.{and_from}
use Rattle.exb_model.specs.Tree.{is_extended}
use Rattle.exb_config.specs.Tables.{bridge_of}
use Rattle.exb_control_spec.proofs.Plans.Trunks.{extended_below}
use Rattle.exb_plan.proofs.Presences.{up_is, up_none}
use Rattle.exb_plan.proofs.presence.risen.Goals as goal
use Rattle.exb_plan.proofs.presence.risen.Goals.{else-is_extended-via-then-is_extended+else-not-is_present, else-is_extended-via-else-is_extended}

pub returns-then-not-is_present : goal.returns-then-not-is_present
returns-then-not-is_present c =
    let t = c.args.tree.now in
    let b = bridge_of c.args.config.now in
    let p = c.args.port in
    up_is t b p (extended_below t c.is_tree.ensures p (sym c.is_extended-is_extended.ensures ∙ c.if-is_extended.true))
    (and_from _ _ (sym c.is_extended-is_extended.ensures ∙ c.if-is_extended.true) (ap not (sym c.present-is_present.ensures ∙ c.if-not-is_present.true)))

pub returns-else-is_extended : goal.returns-else-is_extended
returns-else-is_extended c =
    let t = c.args.tree.now in
    let b = bridge_of c.args.config.now in
    let p = c.args.port in
    elim c.else-is_extended.branch [
      | else-is_extended-via-then-is_extended+else-not-is_present w ↦ up_none t b p (second (is_extended t p) (b.present p) (sym c.present-is_present.ensures ∙ w.if-not-is_present.false))
      | else-is_extended-via-else-is_extended w ↦ up_none t b p (ap (λ (e : Bool). e && not (b.present p)) (sym c.is_extended-is_extended.ensures ∙ w.if-is_extended.false))
    ]
  where
    second : (e a : Bool) → a ≡ true → (e && not a) ≡ false
    second true a h = ap not h
    second false a h = refl
