use Rattle.exb_cli.proofs.LawLemmas.{written_read}
use Rattle.exb_cli.proofs.laws.written_is_read.Goals as goal

pub returns : goal.returns
returns c = written_read
