use Rattle.std.proofs.Common.{refl}
use Rattle.exb_learn.proofs.slots.move_if.Goals as goal

pub returns-then-moves : goal.returns-then-moves
returns-then-moves c = rw c.if-moves.true c.move_to.ensures

pub returns-else-moves : goal.returns-else-moves
returns-else-moves c = rw c.if-moves.false (record { heads = refl; links = refl; room = refl })
