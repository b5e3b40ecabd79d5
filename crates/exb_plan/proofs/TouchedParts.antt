-- The parts that a command touches, as they are put.
use Rattle.std.proofs.Common.{◌≡◌, ◌∙◌, ◌++◌, List, [], filter, map, ap}
use Rattle.exb_model.specs.declared.command.Command.{Command}
use Rattle.exb_model.specs.Tree.{Shape}
use Rattle.exb_model.specs.Configuration.{Bridge, after}
use Rattle.exb_control_spec.specs.declared.plan.set_at.SetAt.{SetAt}
use Rattle.exb_plan.specs.Parts.{has_ports, some_parts, Adds}
use Rattle.exb_control_spec.specs.Plans.Sets.{seen}
use Rattle.exb_control_spec.specs.Plans.TouchedParts.{touches_below, touched_before, touched_after, parts_before, parts_after}

pub before_is : (t : Shape) (c : Command) (b : Bridge) (old new : List SetAt) → old ≡ [] → Adds t b (touches_below t c) (touched_before c b) old new → map seen new ≡ filter has_ports (parts_before t c b)
unfolding some_parts parts_before
before_is t c b old new none adds = adds ∙ ap (λ (l : List SetAt). map seen l ++ some_parts t b (touches_below t c) (touched_before c b)) none

pub after_is : (t : Shape) (c : Command) (b : Bridge) (old new : List SetAt) → old ≡ [] → Adds t (after c b) (touches_below t c) (touched_after c b) old new → map seen new ≡ filter has_ports (parts_after t c b)
unfolding some_parts parts_after
after_is t c b old new none adds = adds ∙ ap (λ (l : List SetAt). map seen l ++ some_parts t (after c b) (touches_below t c) (touched_after c b)) none
