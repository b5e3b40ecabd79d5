use Rattle.exb_csp.proofs.AllTablesLemmas.{runs_lay_rows}
use Rattle.exb_csp.proofs.laws.runs_lay_rows.Goals as goal

pub returns : goal.returns
returns c = runs_lay_rows
