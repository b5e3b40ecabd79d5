use Rattle.std.proofs.Common.{◌∙◌, subst}
use Rattle.exb_learn.specs.RingLinks.{moved_if, IsNow}
use Rattle.exb_learn.specs.EntryRings.{IsPutting}
use Rattle.exb_learn.proofs.StationRings.{slotted_known, slotted_new}
use Rattle.exb_learn.proofs.slots.Slots.put.Goals as goal

pub returns-in-Some : goal.returns-in-Some
returns-in-Some c = λ es s n h.
    slotted_known es s n c.args.self.now.ages c.args.self.now.ports c.move_if.new.rings c.move_if-in-Some.new.rings c.args.slot c.from-port.result c.in-Some.known c.args.place.now
    (subst (λ o. IsPutting es s n c.args.self.now.ages c.args.self.now.ports c.args.slot o c.args.place.now) c.in-Some.is h)
    (c.from-port.ensures ∙ c.number.ensures.value) c.number.ensures.range c.move_if.ensures
    (subst (λ b. IsNow c.args.self.now.ports c.move_if-in-Some.new.rings (moved_if c.args.self.now.ports b c.from-port.result c.args.slot)) c.ne.ensures c.move_if-in-Some.ensures)

pub returns-in-None : goal.returns-in-None
returns-in-None c = λ es s n h.
    slotted_new es s n c.args.self.now.ages c.args.self.now.ports c.put.new.self c.put-in-None.new.self c.args.slot c.from-port.result c.args.place.now
    (subst (λ o. IsPutting es s n c.args.self.now.ages c.args.self.now.ports c.args.slot o c.args.place.now) c.in-None.is h)
    (c.from-port.ensures ∙ c.number.ensures.value) c.number.ensures.range c.put.ensures c.put-in-None.ensures
