use Rattle.std.proofs.Common.{◌≡◌, [], take, drop}
use Rattle.exb_csp.specs.Execution.{rows_code}
use Rattle.exb_extender.specs.Tables.{tables_of}
use Rattle.exb_extender.proofs.tables.ForwardingTables.rows_code.Given as goal

abbrev pub invariant-rows : goal.invariant-rows
invariant-rows l = rows_code (tables_of l.self) (take l.at l.rows) (drop l.at l.rows) ≡ rows_code (tables_of l.self) [] l.rows
