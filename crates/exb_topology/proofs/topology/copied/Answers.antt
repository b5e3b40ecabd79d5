use Rattle.std.proofs.Common.{◌∙◌, ◌++◌, ◌∷◌, [], sym, ap, get_or, List}
use Rattle.std.proofs.lemmas.List.{take_more}
use Rattle.exb_model.specs.declared.setup.ExtenderSetup.{ExtenderSetup}
use Rattle.exb_model.specs.declared.setup.Place.TheVariants as place
use Rattle.exb_topology.proofs.topology.copied.Goals as goal

pub loop-extender-preserved : goal.loop-extender-preserved
loop-extender-preserved c =
    let xs = c.args.extenders.now in
    let i = c.loop-extender.extender-index in
    let none : ExtenderSetup = record { number = 0; ports = 0; on = place.Bridge 0 } in
    c.in_ok-push.ensures.ok ∙ ap (λ (front : List ExtenderSetup). front ++ get_or xs i none ∷ []) c.loop-extender.invariant ∙ sym (take_more xs i none c.loop-extender-test.true)
