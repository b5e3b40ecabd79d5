use Rattle.std.proofs.Common.{ℕ, ap, sym, ◌∙◌, arith}
use Rattle.exb_net.specs.BridgeSets.{mark_of}
use Rattle.exb_net.proofs.BridgeSets.{with_one}
use Rattle.exb_net.proofs.bridge_set.BridgeSet.mark.Goals as goal

pub returns : goal.returns
returns c = λ b none.
    let apart = with_one c.self.inside.bits c.args.bridge c.min.result (omega (arith, c.min.ensures)) b none in
    (ap (λ (m : ℕ). mark_of m b) (sym c.self.view_is) ∙ apart.0, apart.1)
