use Rattle.std.proofs.Common.{arith}
use Rattle.exb_csp.proofs.ExecutionLoops.{no_row}
use Rattle.exb_wire_tests.proofs.PlainLemmas.{rows_set}
use Rattle.exb_wire_tests.proofs.plain_tables.set_rows.Goals as goal

pub rows-preserved : goal.rows-preserved
rows-preserved c =
    rows_set c.rows.words c.args.words.now c.args.rows.now c.rows.row-index c.rows-test.true (omega (arith, c.requires c.rows.row-index no_row c.rows-test.true)) c.rows.invariant
