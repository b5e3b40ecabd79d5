use Rattle.std.proofs.Common.{true, arith}
use Rattle.exb_plan.proofs.BranchLemmas.{one_of}
use Rattle.exb_plan.proofs.branches.Branches.new.Goals as goal

pub returns : goal.returns
returns g c = c.below.ensures (λ k. true) (λ k low. one_of 1 65 k (omega arith) (omega (arith, low)))
