use Rattle.exb_audit.proofs.FlatCaptures.{flat_can_be_written}
use Rattle.exb_audit.proofs.laws.flat_can_be_written.Goals as goal

pub returns : goal.returns
returns c = flat_can_be_written
