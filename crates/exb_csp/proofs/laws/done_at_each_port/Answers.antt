use Rattle.exb_csp.proofs.AllTablesLemmas.{done_at_each_port}
use Rattle.exb_csp.proofs.laws.done_at_each_port.Goals as goal

pub returns : goal.returns
returns c = done_at_each_port
