use Rattle.std.proofs.Common.{ℕ, ap, sym, ◌∙◌}
use Rattle.exb_net.specs.BridgeSets.{mark_of}
use Rattle.exb_net.proofs.BridgeSets.{of_both}
use Rattle.exb_net.proofs.bridge_set.BridgeSet.join.Goals as goal

pub returns : goal.returns
returns c = λ b none.
    let apart = of_both c.self.inside.bits c.others.inside.bits b none in
    (ap (λ (m : ℕ). mark_of m b) (sym c.self.view_is) ∙ apart.0, ap (λ (m : ℕ). mark_of m b) (sym c.others.view_is) ∙ apart.1)
