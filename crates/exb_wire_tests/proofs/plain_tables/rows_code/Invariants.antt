use Rattle.std.proofs.Common.{◌≡◌, [], take, drop}
use Rattle.exb_csp.specs.Execution.{rows_code}
use Rattle.exb_wire_tests.specs.PlainStates.{tables_in}
use Rattle.exb_wire_tests.proofs.plain_tables.rows_code.Given as goal

abbrev pub invariant-rows : goal.invariant-rows
invariant-rows l = rows_code (tables_in l.own [] l.words) (take l.at l.rows) (drop l.at l.rows) ≡ rows_code (tables_in l.own [] l.words) [] l.rows
