use Rattle.std.proofs.Common.{◌≡◌, ◌*◌, ◌++◌, ℕ, List, drop}
use Rattle.std.specs.Prelude.{option_map}
use Rattle.exb_trace_spec.specs.TraceTexts.{bytes_in}
use Rattle.exb_audit.proofs.trace_lines.put_bytes.Given as goal

abbrev pub invariant-loop-i : goal.invariant-loop-i
invariant-loop-i l = option_map (λ (bs : List ℕ). l.into.items ++ bs) (bytes_in (drop (2 * l.i) l.hex)) ≡ bytes_in l.hex
