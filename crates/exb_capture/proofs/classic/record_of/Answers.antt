use Rattle.std.proofs.Common.{◌≤◌, ◌+◌, ℕ, take, length, ap, arith, rules}
use Rattle.exb_capture.specs.Classic.{form}
use Rattle.exb_capture.proofs.ClassicLemmas.{head_is, record_is, time_is}
use Rattle.exb_capture.proofs.classic.record_of.Goals as goal

pub returns-clause-value : goal.returns-clause-value
returns-clause-value c =
    let f = form c.args.order c.args.resolution in
    let head = take 16 c.args.held.now in
    let n = c.word_at-bytes.result in
    let fits : 16 + n ≤ length c.args.held.now = search rules in
    record_is f c.args.held.now n _ fits
    (head_is f head c.word_at-fraction.result n c.units-units.result.0 c.word_at-fraction.ensures c.word_at-bytes.ensures (ap (λ (p : ℕ × ℕ). p.0) c.units-units.ensures) (omega (arith, c.if-fraction-units.false)) (omega (arith, c.if-bytes-gt-LONGEST_FRAME.false)))
    (time_is f head c.word_at.result c.word_at-fraction.result c.units-units.result.1 c.word_at.ensures c.word_at-fraction.ensures (ap (λ (p : ℕ × ℕ). p.1) c.units-units.ensures))
