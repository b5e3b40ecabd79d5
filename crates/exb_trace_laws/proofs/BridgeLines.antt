-- What the bridge does with a word that comes up is told.
use Rattle.std.proofs.Common.{◌≡◌, ℕ, ◌+◌, ◌<◌, Bool, true, false, cond, List, Option, Some, None, refl, inl, inr}
use Rattle.std.proofs.lemmas.Bool.{cases_Bool}
use Rattle.exb_model.specs.declared.event.Event.{Event}
use Rattle.exb_model.specs.Tree.{Shape, IsTree, on, is_extender, is_port, is_external}
use Rattle.exb_model.specs.Setup.{Limits}
use Rattle.exb_model.specs.ETags.{read_etag, stripped}
use Rattle.exb_extender.specs.Forwarding.{has_etag_type}
use Rattle.exb_link.specs.declared.link_frame.Stamp.{Stamp}
use Rattle.exb_link.specs.declared.link_frame.LinkFrame.{LinkFrame}
use Rattle.exb_link.specs.LinkFrames.{is_control}
use Rattle.exb_model.specs.Frames.{is_control_frame, IsBytes}
use Rattle.exb_relay.specs.Laws.{SendsAreWords}
use Rattle.exb_control_spec.specs.Runs.RequestTargets.{Knows}
use Rattle.exb_world_spec.specs.Worlds.{World}
use Rattle.exb_world_spec.specs.Effects.{Effect, only}
use Rattle.exb_world_spec.specs.ExtenderSteps.{hung_on}
use Rattle.exb_world_spec.specs.ControlFrames.{hears}
use Rattle.exb_world_spec.specs.DataFrames.{arrival_by, comes_from, holder_by, hung_at, hears_from, takes_control, bridge_takes}
use Rattle.exb_world_spec.proofs.Trunks.{hung_is, extender_there}
use Rattle.exb_model.specs.Traces.{TraceLine}
use Rattle.exb_model.specs.Traces as line
use Rattle.exb_trace_laws.proofs.ReachablePorts.{RelayReady}
use Rattle.exb_trace_laws.proofs.ControlEvents.{IsPlain}
use Rattle.exb_trace_laws.proofs.EffectLines.{Any, Tells, tells_none}
use Rattle.exb_trace_laws.proofs.RequestLines.{hears_tells}
use Rattle.exb_trace_laws.proofs.RelayLines.{comes_tells}
use Rattle.exb_world_spec.proofs.Bytes.{stripped_bytes}

module _ (t : Shape) (l : Limits) (tree : IsTree t) (C : TraceLine → Type 0) (down : (m : ℕ) (f : List ℕ) → is_extender t m ≡ true → on t m < 64 → is_control_frame f ≡ true → C (line.Out 0 (on t m + 1) f)) where
  -- ---- a control word
  module _ (D : Event → Type 0) (plain : (e : Event) → IsPlain e → D e) where
    hung_tells : (o : Option ℕ) (f : List ℕ) (w : World) → Knows t w.control → Tells t C D w (hears_from t l (hung_at t o) f w)
    hung_tells None f w knows = tells_none t C D w (only w) refl refl refl refl refl tt refl
    hung_tells (Some p) f w knows = by_hung (hung_on t p) refl
      where
        by_hung : (o : Option ℕ) → hung_on t p ≡ o → Tells t C D w (hears_from t l o f w)
        by_hung None e = tells_none t C D w (only w) refl refl refl refl refl tt refl
        by_hung (Some n) e = hears_tells t tree C D down plain l n f w (extender_there t n p (hung_is t p n e)) knows

    either : (w : World) (b : Bool) (e f : Effect) → Tells t C D w e → Tells t C D w f → Tells t C D w (cond b e f)
    either w true e f k j = k
    either w false e f k j = j

    pub control_word_tells : (k m : ℕ) (f : List ℕ) (w : World) → is_extender t m ≡ true → Knows t w.control → Tells t C D w (takes_control t l k m f w)
    control_word_tells k m f w there knows =
        either w (has_etag_type f) (hears_from t l (hung_at t (holder_by w k (read_etag f))) (stripped f) w) (hears t l m f w)
        (hung_tells (holder_by w k (read_etag f)) (stripped f) w knows) (hears_tells t tree C D down plain l m f w there knows)

  -- ---- any word
  module _ (law : SendsAreWords) (out : (k : ℕ) (f : List ℕ) → k < 64 → is_port t k ≡ true → C (line.Out 0 (k + 1) f)) where
    from_tells : (o : Option ℕ) (s : Option Stamp) (f : List ℕ) (w : World) → RelayReady t w → IsBytes f → Tells t C Any w (comes_from t o s f w)
    from_tells None s f w ready bytes = tells_none t C Any w (only w) refl refl refl refl refl tt refl
    from_tells (Some p) None f w ready bytes = tells_none t C Any w (only w) refl refl refl refl refl tt refl
    from_tells (Some p) (Some s) f w ready bytes =
        elim (cases_Bool (is_external t p)) [
          | inl e ↦ rw e (comes_tells t tree C Any out law (arrival_by p s f) w ready bytes tt)
          | inr e ↦ rw e (tells_none t C Any w (only w) refl refl refl refl refl tt refl)
        ]

    pub bridge_tells : (k m : ℕ) (x : LinkFrame) (w : World) → is_extender t m ≡ true → Knows t w.control → RelayReady t w → IsBytes x.bytes → Tells t C Any w (bridge_takes t l k m x w)
    bridge_tells k m x w there knows ready bytes =
        elim (cases_Bool (is_control x)) [
          | inr e ↦ rw e (from_tells (holder_by w k (read_etag x.bytes)) x.stamp (stripped x.bytes) w ready (stripped_bytes x.bytes bytes))
          | inl e ↦ rw e (control_word_tells Any (λ z p. tt) k m x.bytes w there knows)
        ]
