use Rattle.std.proofs.Common.{ap, ◌∙◌}
use Rattle.exb_extender.specs.Fields.{Fields, state_of}
use Rattle.exb_extender.specs.IdleExtender.{rests}
use Rattle.exb_extender.specs.Tables.{tables_of}
use Rattle.exb_extender.proofs.extender.Extender.rests.Goals as goal

pub returns : goal.returns
returns c = c.rests.ensures (tables_of c.self.inside.tables) ∙ ap (λ (x : Fields). rests (state_of x)) c.self.view_is
