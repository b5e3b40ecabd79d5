use Rattle.std.proofs.Common.{arith}
use Rattle.std.proofs.lemmas.Grind.{common_steps}
use Rattle.exb_csp.proofs.RowDecoding.{rows_go_on, rows_end}
use Rattle.exb_csp.proofs.reader.rows_at.Goals as goal

pub rows-preserved : goal.rows-preserved
rows-preserved c = record {
  long = grind (arith, common_steps);
  counted = grind (arith, common_steps);
  read = rw (c.push.ensures, c.u16_at.ensures, c.u64_at.ensures, c.split_at.ensures.back) (rows_go_on _ _ _ _ _ c.rows-test.true c.rows.invariant.read);
}

pub returns : goal.returns
returns c = rows_end _ _ _ _ _ c.rows-test.false c.rows.invariant.read
