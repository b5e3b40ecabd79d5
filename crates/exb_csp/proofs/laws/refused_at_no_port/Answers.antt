use Rattle.exb_csp.proofs.AllTablesLemmas.{refused_at_no_port}
use Rattle.exb_csp.proofs.laws.refused_at_no_port.Goals as goal

pub returns : goal.returns
returns c = refused_at_no_port
