use Rattle.exb_learn.proofs.StationRings.{slotted_less}
use Rattle.exb_learn.proofs.slots.Slots.remove.Goals as goal

pub returns : goal.returns
returns c = λ es n e h there.
    slotted_less es n c.args.self.now.ages c.args.self.now.ports c.remove.new.rings c.remove-2.new.rings c.args.slot c.args.last e h there c.remove.ensures c.remove-2.ensures
