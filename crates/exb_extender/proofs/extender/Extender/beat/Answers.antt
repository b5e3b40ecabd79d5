use Rattle.exb_extender.specs.ExtenderParts.{state_in}
use Rattle.exb_extender.specs.Machine.{Beats}
use Rattle.exb_extender.specs.Tables.{tables_of}
use Rattle.exb_extender.proofs.MachineLemmas.{reacted_same}
use Rattle.exb_extender.proofs.extender.Extender.beat.Goals as goal

pub returns-clause-device : goal.returns-clause-device
returns-clause-device c =
    rw (← c.self.view_is) (reacted_same Beats (state_in c.self.inside.tables c.self.inside.control) _ (c.beat.ensures.state (tables_of c.self.inside.tables)))
