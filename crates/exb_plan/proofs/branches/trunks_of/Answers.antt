use Rattle.std.proofs.Common.{ℕ, refl, arith}
use Rattle.exb_model.proofs.PortBits.{get_or-same}
use Rattle.exb_plan.proofs.branches.trunks_of.Goals as goal

pub loop-number-init : goal.loop-number-init
loop-number-init c = (refl, λ n h. absurd (omega arith), λ n h. get_or-same {X = ℕ} 65 n 0)
