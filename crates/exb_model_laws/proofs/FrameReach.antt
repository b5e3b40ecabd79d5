-- What a target has, it gets.
use Rattle.std.proofs.Common.{◌≡◌, ℕ, Bool, true, false, not, cond, ◌&&◌, ◌==◌, List, ◌∷◌, ◌++◌, refl, ap, ◌∙◌, eq-eqb, inl, inr, ◌⊎◌}
use Rattle.std.specs.Prelude.{Option, Some, None}
use Rattle.std.proofs.lemmas.Bool.{ne_eqb}
use Rattle.std.proofs.lemmas.List.{append-nil}
use Rattle.exb_model.specs.declared.event.Event.{Event}
use Rattle.exb_model.specs.declared.event.Event.TheVariants as event
use Rattle.exb_model.specs.declared.vlan.Kind.{Kind}
use Rattle.exb_model.specs.Frames.{destination, is_group}
use Rattle.exb_model.specs.Configuration.{Bridge}
use Rattle.exb_model.specs.History.{Basis, History, bridge_after}
use Rattle.exb_model.specs.Learning.{Look, passes, learned}
use Rattle.exb_model.specs.Targets.{static_for, is_chosen, is_chosen_by, both_isolated, target}
use Rattle.exb_model.specs.FlatBridge.{Sent, sent_as, sent_by, flat}
use Rattle.exb_model_laws.specs.FrameReach.{Comes, MayGet, Reaches, Misses, FloodReachesAll, LearnedIsReached, StaticReachesItsPorts}

flat_more : (i : Basis) (e : Event) (h : History) (q : ℕ) → flat i (e ∷ h) q ≡ flat i h q ++ sent_by (bridge_after i h) (learned i h) e q
unfolding flat
flat_more i e h q = refl

-- by its target the frame leaves, or doesn't
reaches : (i : Basis) (h : History) (p n t : ℕ) (f : List ℕ) (v q : ℕ) (kind : Kind) → passes (bridge_after i h) p f ≡ Some v
    → target (bridge_after i h) (learned i h) p f q ≡ Some kind → Reaches i h p n t f v q kind
reaches i h p n t f v q kind passed is =
    flat_more i (event.Relay p n t f) h q
    ∙ ap (λ (xs : List Sent). flat i h q ++ xs)
    (ap (λ (o : Option ℕ). sent_as t f o (target (bridge_after i h) (learned i h) p f q)) passed ∙ ap (sent_as t f (Some v)) is)

misses : (i : Basis) (h : History) (p n t : ℕ) (f : List ℕ) (v q : ℕ) → passes (bridge_after i h) p f ≡ Some v
    → target (bridge_after i h) (learned i h) p f q ≡ None → Misses i h p n t f q
misses i h p n t f v q passed is =
    flat_more i (event.Relay p n t f) h q
    ∙ ap (λ (xs : List Sent). flat i h q ++ xs)
    (ap (λ (o : Option ℕ). sent_as t f o (target (bridge_after i h) (learned i h) p f q)) passed ∙ ap (sent_as t f (Some v)) is)
    ∙ append-nil (flat i h q)

apart_is : (a b : Bool) → (a ≡ false) ⊎ (b ≡ false) → (a && b) ≡ false
apart_is false b h = refl
apart_is true false h = refl
apart_is true true (inl e) = absurd (cc)
apart_is true true (inr e) = absurd (cc)

module _ (k : Bridge) (look : Look) (p : ℕ) (f : List ℕ) (v q : ℕ) where
  -- what may get it, and is chosen, is a target
  target_of : (kind : Kind) → Comes k p f v → MayGet k p v q kind → is_chosen k look v (destination f) q ≡ true → target k look p f q ≡ Some kind
  unfolding target
  target_of kind comes may chosen =
      let apart : both_isolated k p q ≡ false = apart_is (k.rule p).isolated (k.rule q).isolated may.apart in
      let other : (q == p) ≡ false = ne_eqb q p may.other in
      rw (comes.present, comes.passed, may.present, other, apart, chosen) may.member

  no_target : Comes k p f v → is_chosen k look v (destination f) q ≡ false → target k look p f q ≡ None
  unfolding target
  no_target comes chosen = rw (comes.present, comes.passed, chosen) (never (k.present q && not (q == p) && not (both_isolated k p q)))
    where
      never : (b : Bool) → cond (b && false) (k.member v q) None ≡ None
      never true = refl
      never false = refl

  flooded : static_for k.statics v (destination f) ≡ None → (is_group (destination f) ≡ true) ⊎ (look v (destination f) ≡ None) → is_chosen k look v (destination f) q ≡ true
  flooded none (inl group) = rw (none, group) refl
  flooded none (inr unknown) = rw (none, unknown) (either (is_group (destination f)))
    where
      either : (b : Bool) → is_chosen_by None (cond b None None) q ≡ true
      either true = refl
      either false = refl

pub flood_reaches_all : FloodReachesAll
flood_reaches_all i h p n t f v q kind comes none unknown may =
    reaches i h p n t f v q kind comes.passed (target_of (bridge_after i h) (learned i h) p f v q kind comes may (flooded (bridge_after i h) (learned i h) p f v q none unknown))

pub learned_is_reached : LearnedIsReached
learned_is_reached i h p n t f v q kind comes none individual known may =
    let chosen : is_chosen (bridge_after i h) (learned i h) v (destination f) q ≡ true = rw (none, individual, known) (eq-eqb q q refl) in
    reaches i h p n t f v q kind comes.passed (target_of (bridge_after i h) (learned i h) p f v q kind comes may chosen)

pub static_reaches_its_ports : StaticReachesItsPorts
static_reaches_its_ports i h p n t f v q entry comes there = record {
  listed = λ kind listed may.
      let chosen : is_chosen (bridge_after i h) (learned i h) v (destination f) q ≡ true = rw there listed in
      reaches i h p n t f v q kind comes.passed (target_of (bridge_after i h) (learned i h) p f v q kind comes may chosen);
  others = λ unlisted.
      let chosen : is_chosen (bridge_after i h) (learned i h) v (destination f) q ≡ false = rw there unlisted in
      misses i h p n t f v q comes.passed (no_target (bridge_after i h) (learned i h) p f v q comes chosen);
}
