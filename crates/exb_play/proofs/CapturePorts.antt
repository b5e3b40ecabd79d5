-- Captures of which ports there are, while a run goes on.
use Rattle.std.proofs.Common.{ℕ, List, [], ◌∷◌, sym, subst}
use Rattle.exb_timeline.specs.declared.bridge_timeline.Next.{Next}
use Rattle.exb_timeline.specs.declared.bridge_timeline.Timeline.{Timeline}
use Rattle.exb_timeline.specs.CaptureMerges.{HasPort, standings}
use Rattle.exb_play.specs.RunInvariants.{ComeAll}
use Rattle.exb_timeline.proofs.TimelineProgress.{ports_before}

pub ports-all : (a b : Timeline) (ds : List Next) → ComeAll a ds b → (q : ℕ) → HasPort q (standings b.captures) → HasPort q (standings a.captures)
ports-all a b [] is q has = subst (λ (p : Timeline). HasPort q (standings p.captures)) (sym is) has
ports-all a b (d ∷ ds) (n, one, rest) q has = ports_before a d n one.is q (ports-all n b ds rest q has)
