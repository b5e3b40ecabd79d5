-- Histories that grow event by event.
use Rattle.std.proofs.Common.{◌≡◌, ℕ, ◌+◌, ◌∷◌, ◌++◌, refl}
use Rattle.exb_model.specs.declared.event.Event.{Event}
use Rattle.exb_model.specs.Learning.{learned}
use Rattle.exb_model.specs.FlatBridge.{flat, sent_by}
use Rattle.exb_model.specs.History.{Basis, History, changed, bridge_after, now_after, seconds_of}

pub bridge_after-more : (i : Basis) (e : Event) (h : History) → bridge_after i (e ∷ h) ≡ changed i e (bridge_after i h)
unfolding bridge_after
bridge_after-more i e h = refl

pub now_after-more : (e : Event) (h : History) → now_after (e ∷ h) ≡ now_after h + seconds_of e
unfolding now_after
now_after-more e h = refl

pub flat-more : (i : Basis) (e : Event) (h : History) (q : ℕ) → flat i (e ∷ h) q ≡ flat i h q ++ sent_by (bridge_after i h) (learned i h) e q
unfolding flat
flat-more i e h q = refl
