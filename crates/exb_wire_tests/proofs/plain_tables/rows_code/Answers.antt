use Rattle.std.proofs.Common.{[], length-drop, arith}
use Rattle.exb_wire_tests.specs.PlainStates.{tables_in}
use Rattle.exb_csp.proofs.ExecutionLoops.{rows_stop, rows_next, rows_none}
use Rattle.exb_wire_tests.proofs.plain_tables.rows_code.Goals as goal

pub returns-then-code-ne0 : goal.returns-then-code-ne0
returns-then-code-ne0 c =
    rows_stop (tables_in c.args.own.now [] c.args.words.now) c.args.rows.now c.rows.at c.row_code-code.result _ c.rows-test.true
    (rw c.split_at.ensures.front at c.row_code-code.ensures) c.if-code-ne0.true c.rows.invariant

pub rows-preserved : goal.rows-preserved
rows-preserved c =
    rows_next (tables_in c.args.own.now [] c.args.words.now) c.args.rows.now c.rows.at c.row_code-code.result _ c.rows-test.true
    (rw c.split_at.ensures.front at c.row_code-code.ensures) c.if-code-ne0.false c.rows.invariant

pub returns : goal.returns
returns c = rows_none (tables_in c.args.own.now [] c.args.words.now) _ _ _ (omega (arith, length-drop c.rows.at c.args.rows.now, c.rows-test.false)) c.rows.invariant
