use Rattle.exb_cli.proofs.LawLemmas.{dashes_end}
use Rattle.exb_cli.proofs.laws.dashes_end_options.Goals as goal

pub returns : goal.returns
returns c = dashes_end
