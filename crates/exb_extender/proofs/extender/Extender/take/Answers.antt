use Rattle.exb_extender.specs.ExtenderParts.{state_in}
use Rattle.exb_extender.specs.Machine.{Arrives}
use Rattle.exb_extender.specs.declared.sends.Side.TheVariants.{Up}
use Rattle.exb_extender.proofs.MachineLemmas.{reacted_same}
use Rattle.exb_extender.proofs.extender.Extender.take.Goals as goal

pub returns-in-Up-clause-device : goal.returns-in-Up-clause-device
returns-in-Up-clause-device c =
    rw (← c.self.view_is) (reacted_same (Arrives Up c.args.frame.now) (state_in c.self.inside.tables c.self.inside.control) _ c.take_down.ensures.state)
