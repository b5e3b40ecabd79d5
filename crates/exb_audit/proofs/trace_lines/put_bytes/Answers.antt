use Rattle.std.proofs.Common.{sym, ◌∙◌, arith}
use Rattle.exb_audit.proofs.Hexadecimal.{goes_on, stops, ends}
use Rattle.exb_audit.proofs.trace_lines.put_bytes.Goals as goal

pub loop-i-preserved : goal.loop-i-preserved
loop-i-preserved c = rw c.in_ok-push.ensures.items (goes_on c.args.hex.now c.loop-i.into.items c.loop-i.i c.in-Some.b c.loop-i-test.true (sym c.byte.ensures ∙ c.in-Some.is) c.loop-i.invariant)

pub returns-in_default : goal.returns-in_default
returns-in_default c = stops c.args.hex.now c.loop-i.into.items c.loop-i.i c.loop-i-test.true (sym c.in_default.ensures) c.loop-i.invariant

pub returns : goal.returns
returns c = ends c.args.hex.now c.loop-i.into.items c.loop-i.i (omega arith) c.loop-i.invariant
