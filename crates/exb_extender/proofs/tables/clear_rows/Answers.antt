use Rattle.exb_extender.proofs.TableLemmas.{rows_cleared}
use Rattle.exb_extender.proofs.tables.clear_rows.Goals as goal

pub ecids-preserved : goal.ecids-preserved
ecids-preserved c = rows_cleared c.args.rows.now c.ecids.rows _ c.args.ecids.now c.ecids.ecid-index c.ecids-test.true c.ecids.invariant c.clear.ensures.rows
