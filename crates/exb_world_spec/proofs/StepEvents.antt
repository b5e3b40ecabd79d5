-- The events of a step, by its kind.
use Rattle.std.proofs.Common.{◌≡◌, ◌⊎◌, ℕ, ◌++◌, not, Bool, true, false, cond, List, [], ◌∷◌, drop, Option, Some, None, Ok, Err, filter, refl, ap, sym, ◌∙◌, subst, inl, inr}
use Rattle.std.specs.Prelude.{Result}
use Rattle.std.proofs.lemmas.Bool.{cases_Bool}
use Rattle.exb_model.specs.Tree.{Shape, on, device, is_external, port_number}
use Rattle.exb_model.specs.Setup.{Limits}
use Rattle.exb_model.specs.declared.event.Event.{Event}
use Rattle.exb_model.specs.declared.event.Event.TheVariants as event
use Rattle.exb_model.specs.ETags.{read_etag, stripped}
use Rattle.exb_model.specs.declared.arrival.Arrival.{Arrival}
use Rattle.exb_model.specs.EagerHistory.{arrival_event}
use Rattle.exb_lldp.specs.declared.announce.Announce.{Announce}
use Rattle.exb_lldp.specs.declared.announce.LldpFault.{LldpFault}
use Rattle.exb_lldp.specs.Announcements.{announced as announcement_in}
use Rattle.exb_ecp.specs.declared.pdu.Pdu.{Pdu}
use Rattle.exb_ecp.specs.declared.pdu.EcpFault.{EcpFault}
use Rattle.exb_ecp.specs.Frames.{pdu_in}
use Rattle.exb_ecp.specs.StopAndWait.{is_fresh, acknowledged}
use Rattle.exb_ecp.specs.StopAndWait.{heard as received}
use Rattle.exb_csp.specs.declared.fault.CspFault.{CspFault}
use Rattle.exb_csp.specs.declared.message.Message.{Message}
use Rattle.exb_csp.specs.Decoding.{read_message}
use Rattle.exb_csp.specs.Sessions.AskingEnd.{took}
use Rattle.exb_extender.specs.declared.sends.Side.TheVariants as side
use Rattle.exb_extender.specs.Forwarding.{Sent, has_etag_type, is_ignored, emitted, sent_from_external}
use Rattle.exb_extender.specs.Machine.{Arrives, Beats}
use Rattle.exb_link.specs.declared.link_frame.Stamp.{Stamp}
use Rattle.exb_link.specs.declared.link_frame.LinkFrame.{LinkFrame}
use Rattle.exb_link.specs.LinkFrames.{is_control, is_data, without_data}
use Rattle.exb_control_spec.specs.Decisions.{decide}
use Rattle.exb_control_spec.specs.Machine.{Moved, answered, heard, ordered, beats}
use Rattle.exb_world_spec.specs.Worlds.{World, Way, Up, Down, Step, Arrive, Carry, Control, Lose, Beat, Tick, Order, Mark, with_near, next_beat}
use Rattle.exb_world_spec.specs.Effects.{Effect, only, each}
use Rattle.exb_world_spec.specs.ExtenderSteps.{reacts, takes_from_below, stamp_of, does_or_ignores, arrives_at}
use Rattle.exb_world_spec.specs.BridgeLearning.{is_of}
use Rattle.exb_world_spec.specs.ControlFrames.{bridge_acknowledgement, to_extender, moves, stops, hears_message, hears_fresh, hears_request, hears_pdu, hears_frame, hears, beats_near, beats_control}
use Rattle.exb_world_spec.specs.DataFrames.{arrival_by, comes_from, holder_by, hung_at, hears_from, takes_control, bridge_takes}
use Rattle.exb_world_spec.specs.Steps.{words_on, with_words, takes, takes_any, first_data, control_at, rest_of, counted, if_there, all_extenders, beats_all, done_by, stepped}
use Rattle.exb_world_spec.specs.Runs.Sessions.{Each}
use Rattle.exb_world_spec.specs.Runs.Simulation.{jobs_in}
use Rattle.exb_world_spec.specs.Runs.Journal.{is_to_bridge, is_ignored_at, IsOfRecord, IsToldOnce, CarryTells, TellsByKind, StepsTellByKind}
use Rattle.exb_world_spec.proofs.SilentEffects.{silent_each, to_extender_silent, does_silent, reacts_silent, near_silent, there_silent}
use Rattle.exb_world_spec.proofs.Jobs.{answered_jobs, heard_jobs, ordered_jobs, beats_none, moves_events}
use Rattle.exb_world_spec.proofs.BridgeSteps.{comes_events}
use Rattle.exb_world_spec.proofs.LinkFrames.{each_get}

-- ---- what a filter leaves
filter_true : {A : Type 0} (p : A → Bool) (xs : List A) → Each (λ x. p x ≡ true) (filter p xs)
filter_true p [] = tt
filter_true p (x ∷ xs) =
    elim (cases_Bool (p x)) [
      | inl e ↦ rw e (e, filter_true p xs)
      | inr e ↦ rw e (filter_true p xs)
    ]

not_true : (b : Bool) → not b ≡ true → b ≡ false
not_true true e = sym e
not_true false e = refl

pub data_is : (ws : List LinkFrame) (x : LinkFrame) → first_data ws ≡ Some x → is_control x ≡ false
data_is ws x e = not_true (is_control x) (each_get (λ (y : LinkFrame). is_data y ≡ true) (filter is_data ws) 0 x (filter_true is_data ws) e)

pub control_is : (ws : List LinkFrame) (k : ℕ) (x : LinkFrame) → control_at ws k ≡ Some x → is_control x ≡ true
control_is ws k x e = each_get (λ (y : LinkFrame). is_control y ≡ true) (filter is_control ws) k x (filter_true is_control ws) e

-- ---- arrivals at extenders
module _ (t : Shape) (w : World) (a : Arrival) where
  n : ℕ
  n = device a.port

  q : ℕ
  q = port_number a.port

  by_ignored : (b : Bool) (xs : List Sent) (x : Sent) → xs ≡ cond b [] (x ∷ []) → (does_or_ignores t a (w.far (device a.port), xs) w).events ≡ cond b (event.Ignored a.port a.index ∷ []) []
  by_ignored true xs x e = ap (λ (ys : List Sent). (does_or_ignores t a (w.far (device a.port), ys) w).events) e
  by_ignored false xs x e =
      ap (λ (ys : List Sent). (does_or_ignores t a (w.far (device a.port), ys) w).events) e ∙ (does_silent t (device a.port) (Some (stamp_of a)) (w.far (device a.port), x ∷ []) w).events

  extended_events : (arrives_at t a w).events ≡ cond (is_ignored_at w a) (event.Ignored a.port a.index ∷ []) []
  unfolding emitted
  extended_events =
      elim (cases_Bool ((w.far (device a.port)).tables.cascade (port_number a.port))) [
        | inl e ↦ rw e refl
        | inr e ↦
            let ignored : Bool = is_ignored ((w.far (device a.port)).tables.own (port_number a.port)) a.bytes in
            rw e (by_ignored ignored (sent_from_external ((w.far (device a.port)).tables.own (port_number a.port)) a.bytes) _ refl)
      ]

-- ---- the bridge hears
abbrev AreJobs : List Event → Type 0
AreJobs es = jobs_in es ≡ es

moves_jobs : (t : Shape) (m : Moved) (w : World) → AreJobs m.events → AreJobs (moves t m w).events
moves_jobs t m w k = subst AreJobs (sym (moves_events t m w)) k

none_then : (xs ys : List Event) → xs ≡ [] → AreJobs ys → AreJobs (xs ++ ys)
none_then xs ys e k = rw e k

module _ (t : Shape) (l : Limits) where
  message_jobs : (n : ℕ) (r : Result Message CspFault) (w : World) → AreJobs (hears_message t l n r w).events
  message_jobs n (Err fault) w = refl
  message_jobs n (Ok m) w = moves_jobs t (answered (decide t l) n m w.control) (stops (took (w.control.askers n) m).1 n w) (answered_jobs (decide t l) n m w.control)

  fresh_jobs : (n : ℕ) (fresh : Bool) (sequence : ℕ) (payload : List ℕ) (w : World) → AreJobs (hears_fresh t l n fresh sequence payload w).events
  fresh_jobs n true sequence payload w = message_jobs n (read_message payload) (with_near n (received sequence (w.near n)) w)
  fresh_jobs n false sequence payload w = refl

  request_jobs : (n sequence : ℕ) (payload : List ℕ) (w : World) → AreJobs (hears_request t l n sequence payload w).events
  request_jobs n sequence payload w =
      let a : Effect = to_extender t n (bridge_acknowledgement sequence) w in
      let v : World = a.world in
      none_then a.events (hears_fresh t l n (is_fresh sequence (v.near n)) sequence payload v).events (to_extender_silent t n (bridge_acknowledgement sequence) w).events
      (fresh_jobs n (is_fresh sequence (v.near n)) sequence payload v)

  pdu_by : (n : ℕ) (p : Pdu) (f : List ℕ) (w : World) (a b : Bool) → AreJobs (cond a (cond b (only (with_near n (acknowledged p.sequence (w.near n)) w)) (hears_request t l n p.sequence (drop 18 f) w)) (only w)).events
  pdu_by n p f w true true = refl
  pdu_by n p f w true false = request_jobs n p.sequence (drop 18 f) w
  pdu_by n p f w false b = refl

  pdu_jobs : (n : ℕ) (r : Result Pdu EcpFault) (f : List ℕ) (w : World) → AreJobs (hears_pdu t l n r f w).events
  pdu_jobs n (Err fault) f w = refl
  pdu_jobs n (Ok p) f w = pdu_by n p f w _ _

  frame_jobs : (n : ℕ) (r : Result Announce LldpFault) (f : List ℕ) (w : World) → AreJobs (hears_frame t l n r f w).events
  frame_jobs n (Err fault) f w = pdu_jobs n (pdu_in f) f w
  frame_jobs n (Ok a) f w =
      elim (cases_Bool (is_of t n a)) [
        | inl e ↦ rw e (moves_jobs t (heard (decide t l) n w.control) w (heard_jobs (decide t l) n w.control))
        | inr e ↦ rw e refl
      ]

  hears_jobs : (n : ℕ) (f : List ℕ) (w : World) → AreJobs (hears t l n f w).events
  unfolding hears
  hears_jobs n f w = frame_jobs n (announcement_in f) f w

  from_jobs : (o : Option ℕ) (f : List ℕ) (w : World) → AreJobs (hears_from t l o f w).events
  from_jobs None f w = refl
  from_jobs (Some n) f w = hears_jobs n f w

  control_jobs : (k m : ℕ) (f : List ℕ) (w : World) → AreJobs (takes_control t l k m f w).events
  control_jobs k m f w = by_type (has_etag_type f)
    where
      by_type : (typed : Bool) → AreJobs (cond typed (hears_from t l (hung_at t (holder_by w k (read_etag f))) (stripped f) w) (hears t l m f w)).events
      by_type true = from_jobs (hung_at t (holder_by w k (read_etag f))) (stripped f) w
      by_type false = hears_jobs m f w

  -- ---- words
  below_events : (p k : ℕ) (x : LinkFrame) (w : World) → (takes_from_below t p k x w).events ≡ []
  below_events p k x w =
      elim (cases_Bool ((w.far p).tables.cascade k)) [
        | inl e ↦ rw e (reacts_silent t p x.stamp (Arrives (side.Port k) x.bytes) w).events
        | inr e ↦ rw e refl
      ]

  -- others than the bridge
  other_events : (n : ℕ) (way : Way) (x : LinkFrame) (w : World) → is_to_bridge t n way ≡ false → (takes t l n way x w).events ≡ []
  other_events n Up x w e = rw e (below_events (device (on t n)) (port_number (on t n)) x w)
  other_events n Down x w e = (reacts_silent t n x.stamp (Arrives side.Up x.bytes) w).events

  any_other : (n : ℕ) (way : Way) (o : Option LinkFrame) (rest : List LinkFrame) (w : World) → is_to_bridge t n way ≡ false → (takes_any t l n way o rest w).events ≡ []
  any_other n way None rest w e = refl
  any_other n way (Some x) rest w e = other_events n way x (with_words n way rest w) e

  -- the bridge takes a control word
  bridge_control : (n : ℕ) (x : LinkFrame) (w : World) → is_control x ≡ true → AreJobs (bridge_takes t l (on t n) n x w).events
  bridge_control n x w e = rw e (control_jobs (on t n) n x.bytes w)

  any_control : (n : ℕ) (way : Way) (o : Option LinkFrame) (rest : List LinkFrame) (w : World) → is_to_bridge t n way ≡ true → ((x : LinkFrame) → o ≡ Some x → is_control x ≡ true) → AreJobs (takes_any t l n way o rest w).events
  any_control n way None rest w e control = refl
  any_control n Up (Some x) rest w e control = rw e (bridge_control n x (with_words n Up rest w) (control x refl))
  any_control n Down (Some x) rest w e control = absurd (let z : false ≡ true = e in cc)

  -- and a data word
  from_few : (o : Option ℕ) (s : Option Stamp) (x : LinkFrame) (w : World) → x.stamp ≡ s → ((comes_from t o s (stripped x.bytes) w).events ≡ []) ⊎ IsToldOnce w x (comes_from t o s (stripped x.bytes) w).events
  from_few None s x w e = inl refl
  from_few (Some p) None x w e = inl refl
  from_few (Some p) (Some s) x w e =
      elim (cases_Bool (is_external t p)) [
        | inl k ↦ rw k (inr (record { port = p; stamp = s; stamped = e; is = comes_events t w (arrival_by p s (stripped x.bytes)) }))
        | inr k ↦ rw k (inl refl)
      ]

  from_record : (o : Option ℕ) (so : Option Stamp) (s : Stamp) (f : List ℕ) (w : World) → o ≡ Some s.port → so ≡ Some s → is_external t s.port ≡ true → (comes_from t o so f w).events ≡ arrival_event w.control.bridge (arrival_by s.port s f) ∷ []
  from_record o so s f w e g external =
      let R : Option ℕ → Option Stamp → Type 0 = λ i j. (comes_from t i j f w).events ≡ arrival_event w.control.bridge (arrival_by s.port s f) ∷ [] in
      let k : R (Some s.port) (Some s) = rw external (comes_events t w (arrival_by s.port s f)) in
      subst (λ (j : Option Stamp). R o j) (sym g) (subst (λ (i : Option ℕ). R i (Some s)) (sym e) k)

  carried_few : (n : ℕ) (way : Way) (x : LinkFrame) (w : World) → is_to_bridge t n way ≡ true → is_control x ≡ false → ((takes t l n way x w).events ≡ []) ⊎ IsToldOnce w x (takes t l n way x w).events
  carried_few n Up x w e bare = rw (e, bare) (from_few (holder_by w (on t n) (read_etag x.bytes)) x.stamp x w refl)
  carried_few n Down x w e bare = absurd (let z : false ≡ true = e in cc)

  carried_record : (n : ℕ) (way : Way) (x : LinkFrame) (w : World) (s : Stamp) → is_to_bridge t n way ≡ true → is_control x ≡ false → IsOfRecord t w n x s →
      (takes t l n way x w).events ≡ arrival_event w.control.bridge (arrival_by s.port s (stripped x.bytes)) ∷ []
  carried_record n Up x w s e bare k = rw (e, bare) (from_record (holder_by w (on t n) (read_etag x.bytes)) x.stamp s (stripped x.bytes) w k.held k.stamped k.external)
  carried_record n Down x w s e bare k = absurd (let z : false ≡ true = e in cc)

  -- ---- a beat
  none_three : (xs ys zs : List Event) → xs ≡ [] → ys ≡ [] → zs ≡ [] → (xs ++ ys) ++ zs ≡ []
  none_three xs ys zs e f g = rw (e, f, g) refl

  beat_events : (w : World) → (beats_all t w).events ≡ []
  unfolding beats_all
  beat_events w =
      let w0 : World = record w { beats = next_beat w.beats } in
      let near : Effect = each (if_there t (beats_near t)) all_extenders w0 in
      let beat : Effect = beats_control t near.world in
      let far : Effect = each (if_there t (λ n. reacts t n None Beats)) all_extenders beat.world in
      none_three near.events beat.events far.events (silent_each (if_there t (beats_near t)) (there_silent t (beats_near t) (near_silent t)) all_extenders w0).events
      (moves_events t (beats near.world.control) near.world ∙ beats_none near.world.control)
      (silent_each (if_there t (λ n. reacts t n None Beats)) (there_silent t (λ n. reacts t n None Beats) (λ n. reacts_silent t n None Beats)) all_extenders beat.world).events

  -- ---- a step
  with_up_control : (n : ℕ) (way : Way) (ws : List LinkFrame) (w : World) → (with_words n way ws w).control ≡ w.control
  with_up_control n Up ws w = refl
  with_up_control n Down ws w = refl

  carry_tells : (n : ℕ) (way : Way) (w : World) → CarryTells t n way w (done_by t l (Carry n way) w).events
  carry_tells n way w = by_word (first_data (words_on n way w)) refl
    where
      rest : List LinkFrame
      rest = without_data (words_on n way w)

      some_same : {x y : LinkFrame} → Some x ≡ Some y → x ≡ y
      some_same e = cc

      by_way : (way : Way) (x y : LinkFrame) (ws : List LinkFrame) (o : Option LinkFrame) → o ≡ Some x → Some x ≡ Some y → is_control x ≡ false → is_to_bridge t n way ≡ true → (s : Stamp) → IsOfRecord t w n y s →
          (takes t l n way x (with_words n way ws w)).events ≡ arrival_event w.control.bridge (arrival_by s.port s (stripped y.bytes)) ∷ []
      by_way Up x y ws o e same bare up s k =
          let g : y ≡ x = sym (some_same same) in
          let R : LinkFrame → Type 0 = λ z. (takes t l n Up x (with_words n Up ws w)).events ≡ arrival_event w.control.bridge (arrival_by s.port s (stripped z.bytes)) ∷ [] in
          let mine : IsOfRecord t w n x s = subst (λ (z : LinkFrame). IsOfRecord t w n z s) g k in
          subst R (sym g) (carried_record n Up x (with_words n Up ws w) s up bare (record { stamped = mine.stamped; held = mine.held; external = mine.external }))
      by_way Down x y ws o e same bare up s k = absurd (let z : false ≡ true = up in cc)

      few_way : (way : Way) (x y : LinkFrame) (ws : List LinkFrame) → Some x ≡ Some y → is_control x ≡ false → is_to_bridge t n way ≡ true →
          ((takes t l n way x (with_words n way ws w)).events ≡ []) ⊎ IsToldOnce w y (takes t l n way x (with_words n way ws w)).events
      few_way Up x y ws same bare up =
          let g : x ≡ y = some_same same in
          let R : LinkFrame → Type 0 = λ z. ((takes t l n Up x (with_words n Up ws w)).events ≡ []) ⊎ IsToldOnce w z (takes t l n Up x (with_words n Up ws w)).events in
          let mine : R x = elim (carried_few n Up x (with_words n Up ws w) up bare) [
            | inl e ↦ inl e
            | inr k ↦ inr (record { port = k.port; stamp = k.stamp; stamped = k.stamped; is = k.is })
          ] in
          subst R g mine
      few_way Down x y ws same bare up = absurd (let z : false ≡ true = up in cc)

      by_word : (o : Option LinkFrame) → first_data (words_on n way w) ≡ o → CarryTells t n way w (takes_any t l n way o rest w).events
      by_word None e =
          record {
            bridge = λ up x k. absurd (let z : None ≡ Some x = sym e ∙ k in cc);
            few = λ up x k. inl refl;
            other = λ down. refl;
          }
      by_word (Some x) e =
          record {
            bridge = λ up y k s r. by_way way x y rest (Some x) refl (sym e ∙ k) (data_is (words_on n way w) x e) up s r;
            few = λ up y k. few_way way x y rest (sym e ∙ k) (data_is (words_on n way w) x e) up;
            other = λ down. other_events n way x (with_words n way rest w) down;
          }

  by_kind : (w : World) (step : Step) → TellsByKind t step w (done_by t l step w).events
  by_kind w (Arrive a) =
      record {
        local = λ low. rw low (comes_events t (counted a w) a);
        extended = λ high. rw high (extended_events t (counted a w) a);
      }
  by_kind w (Carry n way) = carry_tells n way w
  by_kind w (Control n way k keep) =
      record {
        bridge = λ up. any_control n way (control_at (words_on n way w) k) (rest_of keep (words_on n way w) k) w up (λ x e. control_is (words_on n way w) k x e);
        other = λ down. any_other n way (control_at (words_on n way w) k) (rest_of keep (words_on n way w) k) w down;
      }
  by_kind w (Lose n way k) = refl
  by_kind w Beat = beat_events w
  by_kind w (Tick seconds) = refl
  by_kind w (Order c) = moves_jobs t (ordered (decide t l) c w.control) w (ordered_jobs (decide t l) c w.control)
  by_kind w Mark = refl

pub steps_tell_by_kind : StepsTellByKind
unfolding stepped
steps_tell_by_kind t l w step = by_kind t l w step
