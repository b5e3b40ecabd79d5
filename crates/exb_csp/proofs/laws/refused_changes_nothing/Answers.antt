use Rattle.exb_csp.proofs.ExecutionLaws.{refused}
use Rattle.exb_csp.proofs.laws.refused_changes_nothing.Goals as goal

pub returns : goal.returns
returns c = refused
