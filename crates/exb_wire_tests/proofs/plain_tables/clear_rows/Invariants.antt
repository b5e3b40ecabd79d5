use Rattle.std.proofs.Common.{◌≡◌, ℕ, ◌&&◌, not, take, slice_index}
use Rattle.exb_csp.specs.Execution.{in_mask, is_listed}
use Rattle.exb_wire_tests.proofs.plain_tables.clear_rows.Given as goal

abbrev pub invariant-ecids : goal.invariant-ecids
invariant-ecids l = (ecid port : ℕ) → in_mask (slice_index l.words ecid) port ≡ (in_mask (slice_index l.initial.words ecid) port && not (is_listed (take l.ecid-index l.ecids) ecid))
