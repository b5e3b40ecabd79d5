use Rattle.std.proofs.Common.{sym, arith}
use Rattle.exb_csp.proofs.ExecutionLaws.{some_bit}
use Rattle.exb_wire_tests.proofs.plain_tables.has_pair.Goals as goal

pub returns : goal.returns
returns c = sym (some_bit _ (omega (arith, c.type_inv.words c.args.ecid)))
