use Rattle.std.proofs.Common.{arith}
use Rattle.exb_model.proofs.DeviceSets.{first_number, no_number, none_past}
use Rattle.exb_model.proofs.device_set.first_in.Goals as goal

pub returns-then-first-gt63-clause-none : goal.returns-then-first-gt63-clause-none
returns-then-first-gt63-clause-none c = none_past c.args.bits c.args.from c.saturating_sub-first.result c.ranges.bits.fits c.saturating_sub-first.ensures (let past = c.if-first-gt63.true in omega (arith, past))

pub returns-then-rest-eq0-clause-none : goal.returns-then-rest-eq0-clause-none
returns-then-rest-eq0-clause-none c = no_number c.args.bits c.args.from c.saturating_sub-first.result c.saturating_sub-first.ensures c.if-rest-eq0.true

pub returns-clause-found : goal.returns-clause-found
returns-clause-found c =
    first_number c.args.bits c.args.from c.saturating_sub-first.result c.ranges.bits.fits c.saturating_sub-first.ensures (let low = c.if-first-gt63.false in omega (arith, low)) (let some = c.if-rest-eq0.false in omega (arith, some))
