use Rattle.exb_model.proofs.DeviceSets.{number_put, number_gone}
use Rattle.exb_model.proofs.device_set.with_bit.Goals as goal

pub returns-then-wanted : goal.returns-then-wanted
returns-then-wanted c = λ n. rw c.if-wanted.true (number_put c.args.bits c.args.number c.requires n)

pub returns-else-wanted : goal.returns-else-wanted
returns-else-wanted c = λ n. rw c.if-wanted.false (number_gone c.args.bits c.args.number c.ranges.bits.fits c.requires n)
