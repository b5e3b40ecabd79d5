use Rattle.std.proofs.Common.{◌+◌, ◌*◌, arith, rules}
use Rattle.exb_capture.proofs.UnitLemmas.{packet_in_time}
use Rattle.exb_capture.proofs.block.enhanced.Goals as goal

pub overflow_mul-result : goal.overflow_mul-result
overflow_mul-result c =
    let low = packet_in_time _ (c.word_at.result * 4_294_967_296 + c.word_at-2.result) c.units.result c.units-2.result c.units.ensures c.units-2.ensures (search rules) (omega (arith, c.if-time-units.false)) in
    omega (arith, low)

pub returns-clause-within : goal.returns-clause-within
returns-clause-within c =
    let low = packet_in_time _ (c.word_at.result * 4_294_967_296 + c.word_at-2.result) c.units.result c.units-2.result c.units.ensures c.units-2.ensures (search rules) (omega (arith, c.if-time-units.false)) in
    record { whole = search rules; in_time = low; short = search rules }
