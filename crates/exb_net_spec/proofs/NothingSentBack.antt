-- Nothing is sent back at the port of an arrival.
use Rattle.std.proofs.Common.{◌≡◌, ℕ, ◌&&◌, not, Bool, true, false, cond, List, [], Option, Some, None, refl, ap, ◌∙◌, inl, inr}
use Rattle.std.proofs.lemmas.Bool.{cases_Bool, eq-eqb}
use Rattle.exb_model.specs.declared.vlan.Kind.{Kind}
use Rattle.exb_model.specs.Configuration.{Bridge}
use Rattle.exb_model.specs.EagerHistory.{is_relayed}
use Rattle.exb_model.specs.FlatBridge.{sent_as}
use Rattle.exb_model.specs.Frames.{destination}
use Rattle.exb_model.specs.Learning.{Look, passes}
use Rattle.exb_model.specs.Targets.{both_isolated, is_chosen, target, target_in}
use Rattle.exb_net_spec.specs.NetLaws.{NothingGoesBack}

none_in : (b : Bridge) (look : Look) (p : ℕ) (f : List ℕ) (o : Option ℕ) → target_in b look p f p o ≡ None
none_in b look p f None = refl
none_in b look p f (Some v) =
    ap (λ (c : Bool). cond (b.present p && not c && not (both_isolated b p p) && is_chosen b look v (destination f) p) (b.member v p) None) (eq-eqb p p refl)
    ∙ by_flags (b.present p) (not (both_isolated b p p)) (is_chosen b look v (destination f) p) (b.member v p)
  where
    by_flags : (c d e : Bool) (k : Option Kind) → cond (c && false && d && e) k None ≡ None
    by_flags true d e k = refl
    by_flags false d e k = refl

none_back : (b : Bridge) (look : Look) (p : ℕ) (f : List ℕ) → target b look p f p ≡ None
unfolding target
none_back b look p f =
    elim (cases_Bool (b.present p)) [
      | inl e ↦ rw e (none_in b look p f (passes b p f))
      | inr e ↦ rw e refl
    ]

none_sent : (moment : ℕ) (f : List ℕ) (o : Option ℕ) → sent_as moment f o None ≡ []
none_sent moment f None = refl
none_sent moment f (Some v) = refl

pub nothing_goes_back : NothingGoesBack
nothing_goes_back b look a =
    elim (cases_Bool (is_relayed b a.port a.bytes)) [
      | inl e ↦ rw e (ap (λ (k : Option Kind). sent_as a.moment a.bytes (passes b a.port a.bytes) k) (none_back b look a.port a.bytes) ∙ none_sent a.moment a.bytes (passes b a.port a.bytes))
      | inr e ↦ rw e refl
    ]
