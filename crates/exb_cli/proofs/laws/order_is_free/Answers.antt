use Rattle.exb_cli.proofs.LawLemmas.{order_free}
use Rattle.exb_cli.proofs.laws.order_is_free.Goals as goal

pub returns : goal.returns
returns c = order_free
