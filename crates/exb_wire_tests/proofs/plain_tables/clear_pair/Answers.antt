use Rattle.exb_wire_tests.proofs.PlainLemmas.{pair_clear}
use Rattle.exb_wire_tests.proofs.plain_tables.clear_pair.Goals as goal

pub returns : goal.returns
returns c = λ other port. pair_clear c.args.words.now c.args.ecid c.args.at other port c.requires.known c.requires.few
