use Rattle.std.proofs.Common.{◌∙◌}
use Rattle.exb_learn.proofs.StationRings.{slotted_empty}
use Rattle.exb_learn.proofs.slots.Slots.new.Goals as goal

pub returns : goal.returns
returns c = λ es none. slotted_empty es c.new.result c.new-2.result none c.new.ensures.heads (c.new-2.ensures.heads ∙ c.from.ensures) c.new.ensures.links c.new-2.ensures.links
