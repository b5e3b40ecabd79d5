use Rattle.std.proofs.Common.{eq-eqb}
use Rattle.std.proofs.lemmas.Bool.{ne_eqb}
use Rattle.exb_learn.proofs.slots.remove.Goals as goal

pub returns-then-slot-last : goal.returns-then-slot-last
returns-then-slot-last c = rw (eq-eqb c.args.slot c.args.last c.if-slot-last.true) c.remove.ensures

pub returns-else-slot-last : goal.returns-else-slot-last
returns-else-slot-last c = rw (ne_eqb c.args.slot c.args.last c.if-slot-last.false) c.replace.ensures
