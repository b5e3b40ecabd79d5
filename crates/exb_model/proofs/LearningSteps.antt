-- What is remembered, event by event.
use Rattle.std.proofs.Common.{◌≡◌, ℕ, Bool, true, false, cond, ◌||◌, List, [], ◌∷◌, refl, ◌∙◌}
use Rattle.std.specs.Prelude.{Option, Some, None}
use Rattle.std.specs.List.{list_any}
use Rattle.exb_model.specs.declared.event.Event.{Event}
use Rattle.exb_model.specs.declared.event.Event.TheVariants as event
use Rattle.exb_model.specs.History.{Basis, History, bridge_after, now_after}
use Rattle.exb_model.specs.Learning.{Sighting, last_sighting, followed, takes_down, teaches, kept_unless, unless_down, remembered}

-- what an event leaves of it
abbrev pub kept : Basis → Event → Option (ℕ × ℕ) → Option (ℕ × ℕ)
kept i e o = kept_unless (λ p. takes_down i p e) o

pub kept_unless-none : (o : Option (ℕ × ℕ)) → kept_unless (λ p. false) o ≡ o
kept_unless-none None = refl
kept_unless-none (Some (p, at)) = refl

unless_down-followed : (i : Basis) (e : Event) (o : Option Sighting) → unless_down i (followed e o) ≡ kept i e (unless_down i o)
unless_down-followed i e None = refl
unless_down-followed i e (Some s) = by_tests (takes_down i s.port e) (list_any (takes_down i s.port) s.since) refl
  where
    by_tests : (now before : Bool) → takes_down i s.port e ≡ now →
        cond (now || before) None (Some (s.port, s.at)) ≡ kept i e (cond before None (Some (s.port, s.at)))
    by_tests true true is = refl
    by_tests true false is = rw is refl
    by_tests false true is = refl
    by_tests false false is = rw is refl

unless_down-relay : (i : Basis) (e : Event) (new : Bool) (s : Sighting) (o : Option Sighting) → ((p : ℕ) → takes_down i p e ≡ false) → s.since ≡ [] →
    unless_down i (cond new (Some s) (followed e o)) ≡ cond new (Some (s.port, s.at)) (unless_down i o)
unless_down-relay i e true s o stays none = rw none refl
unless_down-relay i e false s o stays none = unless_down-followed i e o ∙ all_kept (unless_down i o)
  where
    all_kept : (r : Option (ℕ × ℕ)) → kept i e r ≡ r
    all_kept None = refl
    all_kept (Some (p, at)) = rw (stays p) refl

-- before any event nothing is
pub remembered-none : (i : Basis) (v : ℕ) (m : List ℕ) → remembered i [] v m ≡ None
unfolding remembered last_sighting
remembered-none i v m = refl

-- a frame that teaches it takes the place of what was there
pub remembered-relay : (i : Basis) (h : History) (p n t : ℕ) (f : List ℕ) (v : ℕ) (m : List ℕ) →
    remembered i (event.Relay p n t f ∷ h) v m ≡ cond (teaches (bridge_after i h) p f v m) (Some (p, now_after h)) (remembered i h v m)
unfolding remembered last_sighting
remembered-relay i h p n t f v m =
    unless_down-relay i (event.Relay p n t f) (teaches (bridge_after i h) p f v m) (record { port = p; at = now_after h; since = [] }) (last_sighting i h v m) (λ q. refl) refl

abbrev pub TeachesNothing : Event → Type 0
TeachesNothing (event.Relay p n t f) = ⊥
TeachesNothing _ = Unit {0}

-- any other event only takes away
pub remembered-other : (i : Basis) (h : History) (e : Event) (v : ℕ) (m : List ℕ) → TeachesNothing e →
    remembered i (e ∷ h) v m ≡ kept i e (remembered i h v m)
unfolding remembered last_sighting
remembered-other i h (event.Relay p n t f) v m none = absurd none
remembered-other i h e v m none = unless_down-followed i e (last_sighting i h v m)
