-- What leaves by one event more.
use Rattle.std.proofs.Common.{◌≡◌, ℕ, Bool, true, false, not, cond, ◌&&◌, ◌==◌, List, [], ◌++◌, refl, sym, ap, ◌∙◌, eq-eqb, inl, inr, ◌⊎◌}
use Rattle.std.specs.Prelude.{Option, Some, None}
use Rattle.std.proofs.lemmas.Bool.{ne_eqb}
use Rattle.std.proofs.lemmas.List.{append-nil}
use Rattle.exb_model.specs.declared.event.Event.TheVariants as event
use Rattle.exb_model.specs.declared.vlan.Kind.{Kind}
use Rattle.exb_model.specs.Frames.{destination}
use Rattle.exb_model.specs.Configuration.{Bridge}
use Rattle.exb_model.specs.History.{Basis, History, bridge_after}
use Rattle.exb_model.specs.Learning.{Look, passes, learned}
use Rattle.exb_model.specs.Targets.{is_chosen, both_isolated, target_in, target}
use Rattle.exb_model.specs.FlatBridge.{Sent, sent_as, flat}
use Rattle.exb_model_laws.specs.Laws.{SendsNothing, LeavesOnce, NeverGoesBack, LeavesByMembers, IsolatedPortsAreApart, LearnedGoesThere}
use Rattle.exb_model_laws.proofs.HistoryLemmas.{flat-more}

-- no target, so nothing leaves
no_target : (i : Basis) (h : History) (p n t : ℕ) (f : List ℕ) (q : ℕ) → target (bridge_after i h) (learned i h) p f q ≡ None →
    SendsNothing i h (event.Relay p n t f) q
no_target i h p n t f q none =
    flat-more i (event.Relay p n t f) h q
    ∙ ap (λ (xs : List Sent). flat i h q ++ xs) (ap (sent_as t f (passes (bridge_after i h) p f)) none ∙ nothing (passes (bridge_after i h) p f))
    ∙ append-nil (flat i h q)
  where
    nothing : (o : Option ℕ) → sent_as t f o None ≡ []
    nothing None = refl
    nothing (Some v) = refl

module _ (k : Bridge) (look : Look) (p : ℕ) (f : List ℕ) (q : ℕ) where
  -- a target has all that is asked
  pub record IsTarget (kind : Kind) : Type 0 where
    pub vid : ℕ
    pub passed : passes k p f ≡ Some vid
    pub present : k.present q ≡ true
    pub other : (q == p) ≡ false
    pub apart : both_isolated k p q ≡ false
    pub chosen : is_chosen k look vid (destination f) q ≡ true
    pub member : k.member vid q ≡ Some kind

  target-is : (kind : Kind) → target k look p f q ≡ Some kind → IsTarget kind
  unfolding target
  target-is kind is = by_source (k.present p) refl is
    where
      by_tests : (v : ℕ) → passes k p f ≡ Some v → (a b c d : Bool) → k.present q ≡ a → (q == p) ≡ b → both_isolated k p q ≡ c → is_chosen k look v (destination f) q ≡ d →
          cond (a && not b && not c && d) (k.member v q) None ≡ Some kind → IsTarget kind
      by_tests v passed true false false true here other apart chosen e =
          record { vid = v; passed = passed; present = here; other = other; apart = apart; chosen = chosen; member = e }
      by_tests v passed false b c d here other apart chosen e = absurd (cc)
      by_tests v passed true true c d here other apart chosen e = absurd (cc)
      by_tests v passed true false true d here other apart chosen e = absurd (cc)
      by_tests v passed true false false false here other apart chosen e = absurd (cc)

      by_vlan : (o : Option ℕ) → passes k p f ≡ o → target_in k look p f q o ≡ Some kind → IsTarget kind
      by_vlan None stopped e = absurd (cc)
      by_vlan (Some v) passed e =
          by_tests v passed (k.present q) (q == p) (both_isolated k p q) (is_chosen k look v (destination f) q) refl refl refl refl e

      by_source : (b : Bool) → k.present p ≡ b → cond b (target_in k look p f q (passes k p f)) None ≡ Some kind → IsTarget kind
      by_source true here e = by_vlan (passes k p f) refl e
      by_source false absent e = absurd (cc)

  -- what can't be a target is none
  target-none : ((kind : Kind) → IsTarget kind → ⊥) → target k look p f q ≡ None
  target-none never = by_target (target k look p f q) refl
    where
      by_target : (o : Option Kind) → target k look p f q ≡ o → o ≡ None
      by_target None is = refl
      by_target (Some kind) is = absurd (never kind (target-is kind is))

pub never_goes_back : NeverGoesBack
never_goes_back i h p n t f =
    no_target i h p n t f p (target-none (bridge_after i h) (learned i h) p f p (λ kind is. let e : (p == p) ≡ true = eq-eqb p p refl in let e' = is.other in cc))

pub isolated_ports_are_apart : IsolatedPortsAreApart
isolated_ports_are_apart i h p n t f q from to =
    no_target i h p n t f q (target-none (bridge_after i h) (learned i h) p f q (λ kind is. let e : both_isolated (bridge_after i h) p q ≡ true = rw (from, to) refl in let e' = is.apart in cc))

pub learned_goes_there : LearnedGoesThere
learned_goes_there i h p n t f q v r passed no_static individual known other =
    no_target i h p n t f q (target-none (bridge_after i h) (learned i h) p f q (λ kind is.
    let same : is.vid ≡ v = cc in
    let not_chosen : is_chosen (bridge_after i h) (learned i h) v (destination f) q ≡ false = rw (no_static, individual, known) (ne_eqb q r other) in
    let chosen = ap (λ (w : ℕ). is_chosen (bridge_after i h) (learned i h) w (destination f) q) (sym same) ∙ is.chosen in cc))

pub leaves_by_members : LeavesByMembers
leaves_by_members i h p n t f q = by_target (target (bridge_after i h) (learned i h) p f q) refl
  where
    by_target : (o : Option Kind) → target (bridge_after i h) (learned i h) p f q ≡ o → SendsNothing i h (event.Relay p n t f) q ⊎ LeavesOnce i h p n t f q
    by_target None none = inl (no_target i h p n t f q none)
    by_target (Some kind) is =
        let all = target-is (bridge_after i h) (learned i h) p f q kind is in
        inr (record {
          vid = all.vid;
          kind = kind;
          passed = all.passed;
          present = all.present;
          member = all.member;
          once = flat-more i (event.Relay p n t f) h q ∙ ap (λ (xs : List Sent). flat i h q ++ xs)
              (ap (λ (o : Option ℕ). sent_as t f o (target (bridge_after i h) (learned i h) p f q)) all.passed ∙ ap (sent_as t f (Some all.vid)) is);
        })
