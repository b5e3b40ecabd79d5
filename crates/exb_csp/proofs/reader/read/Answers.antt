use Rattle.std.proofs.Common.{arith}
use Rattle.exb_csp.proofs.UniqueEncoding.{is_spelled}
use Rattle.exb_csp.proofs.reader.read.Goals as goal

pub returns-clause-spelled : goal.returns-clause-spelled
returns-clause-spelled c = is_spelled c.args.bytes.now _ (λ i. omega (arith, c.type_inv.bytes i)) c.message_in.ensures
