use Rattle.std.proofs.Common.{arith}
use Rattle.exb_wire_tests.proofs.PlainLemmas.{rows_clear}
use Rattle.exb_wire_tests.proofs.plain_tables.clear_rows.Goals as goal

pub ecids-preserved : goal.ecids-preserved
ecids-preserved c =
    rows_clear c.ecids.words c.args.words.now c.args.ecids.now c.ecids.ecid-index c.ecids-test.true (omega (arith, c.requires c.ecids.ecid-index 0 c.ecids-test.true)) c.ecids.invariant
