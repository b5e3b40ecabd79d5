use Rattle.exb_csp.proofs.ExecutionLaws.{register_many}
use Rattle.exb_csp.proofs.laws.register_many_is_its_rows.Goals as goal

pub returns : goal.returns
returns c = register_many
