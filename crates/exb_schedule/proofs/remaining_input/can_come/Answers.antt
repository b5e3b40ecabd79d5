use Rattle.std.proofs.Common.{◌∙◌, sym, subst}
use Rattle.std.proofs.lemmas.List.{get_or_default}
use Rattle.exb_world_spec.specs.AllowedSteps.{Can}
use Rattle.exb_world_spec.specs.Worlds.{Arrive}
use Rattle.exb_world.specs.WorldContracts.{world_of, tree_of}
use Rattle.exb_model.specs.declared.arrival.Arrival.{Arrival}
use Rattle.exb_schedule.proofs.remaining_input.can_come.Goals as goal

pub returns : goal.returns
returns c can a is =
    let now = c.args.world.now in
    let same = c.index-arrivals-at.is ∙ (get_or_default c.args.arrivals.now c.args.at c.index-arrivals-at.result a c.requires ∙ sym is) in
    let here = subst (Can (tree_of now) (world_of now)) c.arrive.ensures (c.can.ensures.may can) in
    subst (λ (x : Arrival). Can (tree_of now) (world_of now) (Arrive x)) same here
