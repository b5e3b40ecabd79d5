use Rattle.exb_model.proofs.PortBits.{get_or-same}
use Rattle.std.proofs.Common.{ℕ}
use Rattle.exb_audit.proofs.rule5_relays.sends_few.Goals as goal

pub count_all-requires-clause-none : goal.count_all-requires-clause-none
count_all-requires-clause-none c = λ k. get_or-same {X = ℕ} 256 k 0
