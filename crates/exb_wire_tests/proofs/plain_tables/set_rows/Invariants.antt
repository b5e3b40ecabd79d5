use Rattle.std.proofs.Common.{◌≡◌, ℕ, ◌||◌, take, slice_index}
use Rattle.exb_csp.specs.Execution.{in_mask, in_rows}
use Rattle.exb_wire_tests.proofs.plain_tables.set_rows.Given as goal

abbrev pub invariant-rows : goal.invariant-rows
invariant-rows l = (ecid port : ℕ) → in_mask (slice_index l.words ecid) port ≡ (in_mask (slice_index l.initial.words ecid) port || in_rows (take l.row-index l.rows) ecid port)
