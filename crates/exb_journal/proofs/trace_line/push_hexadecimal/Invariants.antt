use Rattle.std.proofs.Common.{◌≡◌, ◌++◌, ◌≤◌, ◌-◌, length, take}
use Rattle.exb_model.specs.Traces.{hexadecimal}
use Rattle.exb_journal.proofs.trace_line.push_hexadecimal.Given as goal

abbrev pub invariant-fours : goal.invariant-fours
invariant-fours l = (l.text.items ≡ l.fn.text.items ++ hexadecimal (take l.at l.bytes)) × (l.at ≤ length l.bytes)

abbrev pub decreases-fours : goal.decreases-fours
decreases-fours l = length l.bytes - l.at

abbrev pub invariant-bytes : goal.invariant-bytes
invariant-bytes l = (l.text.items ≡ l.fn.text.items ++ hexadecimal (take l.at l.bytes)) × (l.at ≤ length l.bytes)

abbrev pub decreases-bytes : goal.decreases-bytes
decreases-bytes l = length l.bytes - l.at
