use Rattle.std.proofs.Common.{arith}
use Rattle.std.proofs.lemmas.Grind.{common_steps}
use Rattle.exb_csp.proofs.RowDecoding.{ecids_go_on, ecids_end}
use Rattle.exb_csp.proofs.reader.ecids_at.Goals as goal

pub ecids-preserved : goal.ecids-preserved
ecids-preserved c = record {
  long = grind (arith, common_steps);
  counted = grind (arith, common_steps);
  read = rw (c.push.ensures, c.u16_at.ensures, c.split_at.ensures.back) (ecids_go_on _ _ _ _ _ c.ecids-test.true c.ecids.invariant.read);
}

pub returns : goal.returns
returns c = ecids_end _ _ _ _ _ c.ecids-test.false c.ecids.invariant.read
