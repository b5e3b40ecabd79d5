use Rattle.std.proofs.Common.{◌≡◌, ℕ, ◌<◌, false}
use Rattle.exb_wire_tests.specs.PlainStates.{stray_at}
use Rattle.exb_wire_tests.proofs.plain_tables.has_stray.Given as goal

abbrev pub invariant-ports : goal.invariant-ports
invariant-ports l = (k : ℕ) → k < l.k → stray_at l.own l.mask k ≡ false
