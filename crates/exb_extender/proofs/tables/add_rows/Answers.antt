use Rattle.exb_extender.proofs.TableLemmas.{rows_added}
use Rattle.exb_extender.proofs.tables.add_rows.Goals as goal

pub added-preserved : goal.added-preserved
added-preserved c = rows_added c.args.rows.now c.added.rows _ c.args.added.now c.added.row-index c.added-test.true c.added.invariant c.add_row.ensures
