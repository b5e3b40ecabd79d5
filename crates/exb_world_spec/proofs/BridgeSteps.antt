-- What the bridge takes, relays and sends at a beat.
use Rattle.std.proofs.Common.{◌≡◌, ℕ, ◌-◌, ◌<◌, ◌≤◌, Bool, true, false, cond, List, [], ◌∷◌, length, Option, Some, None, refl, ap, sym, ◌∙◌, subst, arith, inl, inr}
use Rattle.std.proofs.lemmas.Bool.{cases_Bool, and_parts}
use Rattle.exb_model.specs.Tree.{Shape, IsTree, on, is_extender, is_external}
use Rattle.exb_model.specs.Setup.{Limits}
use Rattle.exb_model.specs.Frames.{kind_of, egress, is_control_frame, IsBytes}
use Rattle.exb_model.specs.ETags.{Tag, read_etag, tagged, stripped}
use Rattle.exb_model.specs.declared.arrival.Arrival.{Arrival}
use Rattle.exb_model.specs.declared.event.Event.{Event}
use Rattle.exb_model.specs.Configuration.{Bridge}
use Rattle.exb_model.specs.EagerHistory.{is_relayed, is_relayed_kind, arrival_event}
use Rattle.exb_model.specs.Learning.{passes}
use Rattle.exb_frame.specs.TagValues.{TagRoundTrip, tag_of}
use Rattle.exb_frame.specs.declared.etag.ETag.{ETag}
use Rattle.exb_csp.specs.declared.message.Body.{Body}
use Rattle.exb_extender.specs.Forwarding.{has_etag_type, channel_tag}
use Rattle.exb_link.specs.declared.link_frame.Stamp.{Stamp}
use Rattle.exb_link.specs.declared.link_frame.LinkFrame.{LinkFrame}
use Rattle.exb_link.specs.LinkFrames.{is_control}
use Rattle.exb_control_spec.specs.Plans.HeldNumbers.{Held}
use Rattle.exb_relay.specs.declared.send.SendTo.{SendTo}
use Rattle.exb_world_spec.specs.Worlds.{World, with_table}
use Rattle.exb_world_spec.specs.Effects.{Effect, only}
use Rattle.exb_world_spec.specs.ExtenderSteps.{hung_on}
use Rattle.exb_world_spec.specs.BridgeLearning.{taught}
use Rattle.exb_world_spec.specs.ControlFrames.{hears}
use Rattle.exb_world_spec.specs.DataFrames.{puts_word, sent_by, sends_in, sends_all, sends_for, comes, arrival_by, comes_from, holder_by, hung_at, hears_from, takes_control, bridge_takes}
use Rattle.exb_world_spec.specs.Runs.Sessions.{Hands, Each, AskedOf, StoredAt, IsFrameOn, IsOnWay, FitsOn, WordFits, AreLow}
use Rattle.exb_world_spec.specs.Runs.Simulation.{jobs_in, system_of, IsSound, Stays}
use Rattle.exb_world_spec.proofs.Bytes.{stripped_bytes}
use Rattle.exb_world_spec.proofs.Frames.{bare_is, read_typed, tagged_to_control, egress_to_control, egress_long, control_refused, relayed_long}
use Rattle.exb_world_spec.proofs.Links.{same_heart, AreLinked, IsDone, pushed_down, none_done, each_done}
use Rattle.exb_world_spec.proofs.Forwarding.{read_way}
use Rattle.exb_world_spec.proofs.ControlSteps.{fits_from}
use Rattle.exb_control_spec.specs.Runs.PlannedChanges.{IsSetting}
use Rattle.exb_world_spec.proofs.CascadeChannels.{forget, fixed_now}
use Rattle.exb_world_spec.proofs.Routing.{stands_route}
use Rattle.exb_world_spec.proofs.ControlFrames.{quiet_stays, hears_sound}
use Rattle.exb_world_spec.proofs.Trunks.{hangs_there, hung_found, trunk_low_on}
use Rattle.exb_world_spec.proofs.SilentEffects.{all_silent}

both_ways : (b : Bool) → b ≡ true → b ≡ false → ⊥
both_ways b x y = cc

each_all : {A : Type 0} (xs : List A) → Each (λ x. Unit {0}) xs
each_all [] = tt
each_all (x ∷ xs) = (tt, each_all xs)

-- ---- what is told of a frame
pub comes_events : (t : Shape) (w : World) (a : Arrival) → (comes t a w).events ≡ arrival_event w.control.bridge a ∷ []
comes_events t w a =
    let v : World = with_table (taught w.control.bridge a w.table) w in
    ap (λ (es : List Event). arrival_event w.control.bridge a ∷ es) (all_silent t a (sends_for t w a) (passes w.control.bridge a.port a.bytes) v).events

pub arrival_jobs : (b : Bridge) (a : Arrival) → jobs_in (arrival_event b a ∷ []) ≡ []
arrival_jobs b a =
    elim (cases_Bool (is_relayed b a.port a.bytes)) [
      | inl e ↦ rw e refl
      | inr e ↦ rw e refl
    ]

module _ (t : Shape) (l : Limits) (tree : IsTree t) (setting : IsSetting t l) (round : TagRoundTrip) where
  -- ---- a frame is relayed
  module _ (h : Held) (P Q : ℕ → ℕ → Body → Type 0) (a : Arrival) (long : 12 ≤ length a.bytes) (plain : is_control_frame a.bytes ≡ false) where
    word_done : (port : ℕ) (o : Option ℕ) (x : LinkFrame) (w : World) → is_control_frame x.bytes ≡ false → AreLinked t h P Q w → IsDone t h P Q w (puts_word port o x w)
    word_done port None x w bare linked = none_done t h P Q w linked
    word_done port (Some m) x w bare linked =
        record { heart = record { control = refl; near = refl; far = refl }; linked = pushed_down t h P Q m x w (λ control. absurd (both_ways (is_control_frame x.bytes) control bare)) linked }

    send_done : (vid : ℕ) (x : SendTo) (w : World) → AreLinked t h P Q w → IsDone t h P Q w (sends_in t a vid x w)
    send_done vid x w linked = by_tag x.tag
      where
        bytes : is_control_frame (egress a.bytes x.kind vid) ≡ false
        bytes = egress_to_control a.bytes x.kind vid long ∙ plain

        by_tag : (o : Option ETag) → IsDone t h P Q w (sent_by t a (egress a.bytes x.kind vid) x.bridge_port o w)
        by_tag None = record { heart = same_heart w; linked = linked }
        by_tag (Some tag) =
            word_done x.bridge_port (hung_on t (x.bridge_port - 1)) (record { bytes = tagged (egress a.bytes x.kind vid) (tag_of tag); stamp = _ }) w
            (tagged_to_control (egress a.bytes x.kind vid) (tag_of tag) (egress_long a.bytes x.kind vid long) ∙ bytes) linked

    sends_done : (xs : List SendTo) (o : Option ℕ) (w : World) → AreLinked t h P Q w → IsDone t h P Q w (sends_all t a xs o w)
    sends_done xs None w linked = none_done t h P Q w linked
    sends_done xs (Some vid) w linked = each_done t h P Q (λ x. Unit {0}) (sends_in t a vid) xs w (λ x v k heart its. send_done vid x v its) linked (each_all xs)

  nothing_done : (h : Held) (P Q : ℕ → ℕ → Body → Type 0) (a : Arrival) (o : Option ℕ) (w : World) → AreLinked t h P Q w → IsDone t h P Q w (sends_all t a [] o w)
  nothing_done h P Q a None w linked = none_done t h P Q w linked
  nothing_done h P Q a (Some vid) w linked = none_done t h P Q w linked

  -- a frame comes to the bridge
  pub comes_sound : (w : World) → IsSound t l w → (a : Arrival) → IsBytes a.bytes → Stays t l w (comes t a w)
  comes_sound w sound a bytes =
      let h : Held = w.control.held in
      let P : ℕ → ℕ → Body → Type 0 = AskedOf w.control.askers in
      let Q : ℕ → ℕ → Body → Type 0 = StoredAt w.far in
      let v : World = with_table (taught w.control.bridge a w.table) w in
      let linked : AreLinked t h P Q v = record { downs = sound.fits.downs; ups = sound.fits.ups } in
      let vid : Option ℕ = passes w.control.bridge a.port a.bytes in
      let xs : List SendTo = sends_for t w a in
      let done : IsDone t h P Q v (sends_all t a xs vid v) = elim (cases_Bool (is_relayed w.control.bridge a.port a.bytes)) [
        | inr other ↦
            let none : xs ≡ [] = rw other refl in
            let R : List SendTo → Type 0 = λ ys. IsDone t h P Q v (sends_all t a ys vid v) in
            subst R (sym none) (nothing_done h P Q a vid v linked)
        | inl relayed ↦
            let kind : is_relayed_kind (kind_of a.bytes) ≡ true = (and_parts (w.control.bridge.present a.port) (is_relayed_kind (kind_of a.bytes)) relayed).1 in
            let long : 14 ≤ length a.bytes = relayed_long a.bytes kind in
            sends_done h P Q a (omega arith) (not_control kind) xs vid v linked
      ] in
      quiet_stays t l tree setting w (comes t a w) done.heart.control done.heart.far (ap jobs_in (comes_events t w a) ∙ arrival_jobs w.control.bridge a)
      (fits_from t tree (comes t a w).world w.control w.near w.far done.heart.control done.heart.near done.heart.far sound.fits.ends done.linked)
    where
      not_control : is_relayed_kind (kind_of a.bytes) ≡ true → is_control_frame a.bytes ≡ false
      not_control kind =
          elim (cases_Bool (is_control_frame a.bytes)) [
            | inr e ↦ e
            | inl e ↦ absurd (both_ways (is_relayed_kind (kind_of a.bytes)) kind (control_refused a.bytes bytes e).1)
          ]

  from_sound : (w : World) → IsSound t l w → (o : Option ℕ) (stamp : Option Stamp) (f : List ℕ) → IsBytes f → Stays t l w (comes_from t o stamp f w)
  from_sound w sound None stamp f bytes = quiet_stays t l tree setting w (only w) refl refl refl sound.fits
  from_sound w sound (Some p) None f bytes = quiet_stays t l tree setting w (only w) refl refl refl sound.fits
  from_sound w sound (Some p) (Some s) f bytes =
      elim (cases_Bool (is_external t p)) [
        | inl e ↦ rw e (comes_sound w sound (arrival_by p s f) bytes)
        | inr e ↦ rw e (quiet_stays t l tree setting w (only w) refl refl refl sound.fits)
      ]

  -- ---- a word comes up
  control_sound : (w : World) → IsSound t l w → (m : ℕ) (f : List ℕ) → on t m < 64 → is_control_frame f ≡ true → FitsOn t w.control.held (StoredAt w.far) m f → AreLow (takes_control t l (on t m) m f w).world.control.askers →
      Stays t l w (takes_control t l (on t m) m f w)
  control_sound w sound m f low_on control fits low = by_way (fits control) (fits control).way
    where
      by_way : (k : IsOnWay t w.control.held m f (λ n c. Hands c (StoredAt w.far n))) → IsFrameOn t w.control.held m f k.of k.frame → Stays t l w (takes_control t l (on t m) m f w)
      by_way k (inl e) =
          let untyped : has_etag_type f ≡ false = ap has_etag_type e.1 ∙ (bare_is k.frame k.bare).untyped in
          let hands : Hands f (StoredAt w.far k.of) = subst (λ (c : List ℕ). Hands c (StoredAt w.far k.of)) (sym e.1) k.fits in
          let mine : Hands f (StoredAt w.far m) = subst (λ (i : ℕ). Hands f (StoredAt w.far i)) (sym e.0) hands in
          let there : is_extender t m ≡ true = ap (is_extender t) e.0 ∙ k.there in
          rw untyped (hears_sound t l tree setting w sound m f there mine (rw untyped at low))
      by_way k (inr tag) =
          let r = read_way t tree w.control.held round (AskedOf w.control.askers) (StoredAt w.far) w.far (stands_route t tree (system_of w) (forget t l (system_of w) sound.stands) (fixed_now t l (system_of w) sound.stands).high w.far (λ i. refl)) m f k.of k.frame k.bare tag in
          let typed : has_etag_type f ≡ true = read_typed f (channel_tag tag.channel) r.0 in
          let holds : w.control.held.port (on t m) tag.channel ≡ Some (on t k.of) = subst (λ (i : ℕ). w.control.held.port i tag.channel ≡ Some (on t k.of)) (trunk_low_on t m low_on) tag.holds in
          let found : hung_at t (holder_by w (on t m) (read_etag f)) ≡ Some k.of =
          ap (λ (o : Option Tag). hung_at t (holder_by w (on t m) o)) r.0 ∙ ap (hung_at t) holds ∙ hung_found t tree k.of (on t k.of) (hangs_there t k.of k.there)
          in
          let same : takes_control t l (on t m) m f w ≡ hears t l k.of k.frame w =
          ap (λ (b : Bool). cond b (hears_from t l (hung_at t (holder_by w (on t m) (read_etag f))) (stripped f) w) (hears t l m f w)) typed
          ∙ ap (λ (o : Option ℕ). hears_from t l o (stripped f) w) found ∙ ap (λ (c : List ℕ). hears_from t l (Some k.of) c w) r.1
          in
          let low' : AreLow (hears t l k.of k.frame w).world.control.askers = subst (λ (e : Effect). AreLow e.world.control.askers) same low in
          subst (λ (e : Effect). Stays t l w e) (sym same) (hears_sound t l tree setting w sound k.of k.frame k.there k.fits low')

  pub taken_sound : (w : World) → IsSound t l w → (m : ℕ) (x : LinkFrame) → on t m < 64 → IsBytes x.bytes → WordFits t w.control.held (StoredAt w.far) m x → AreLow (bridge_takes t l (on t m) m x w).world.control.askers →
      Stays t l w (bridge_takes t l (on t m) m x w)
  taken_sound w sound m x low_on bytes fits low =
      elim (cases_Bool (is_control x)) [
        | inl control ↦ rw control (control_sound w sound m x.bytes low_on (control) fits (rw control at low))
        | inr bare ↦ rw bare (from_sound w sound (holder_by w (on t m) (read_etag x.bytes)) x.stamp (stripped x.bytes) (stripped_bytes x.bytes bytes))
      ]
