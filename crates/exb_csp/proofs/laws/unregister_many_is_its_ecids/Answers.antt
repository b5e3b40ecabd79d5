use Rattle.exb_csp.proofs.ExecutionLaws.{unregister_many}
use Rattle.exb_csp.proofs.laws.unregister_many_is_its_ecids.Goals as goal

pub returns : goal.returns
returns c = unregister_many
