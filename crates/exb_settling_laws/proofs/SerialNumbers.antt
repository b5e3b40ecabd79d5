-- No step raises the serial of an extender by more than one, whatever it is.
use Rattle.std.proofs.Common.{◌≡◌, ℕ, ◌+◌, ◌≤◌, ◌==◌, ◌||◌, nat_lt, Bool, true, false, cond, List, [], ◌∷◌, drop, Option, Some, None, Ok, Err, refl, ap, sym, ◌∙◌, subst, arith, inl, inr}
use Rattle.std.specs.Prelude.{Result}
use Rattle.std.proofs.lemmas.Bool.{cases_Bool, cases_eq, eq-eqb, ne_eqb}
use Rattle.exb_model.specs.Setup.{Limits}
use Rattle.exb_model.specs.Tree.{Shape, IsTree, device, on, port_number}
use Rattle.exb_model.specs.ETags.{read_etag, stripped}
use Rattle.exb_model.specs.declared.arrival.Arrival.{Arrival}
use Rattle.exb_lldp.specs.declared.announce.Announce.{Announce}
use Rattle.exb_lldp.specs.declared.announce.LldpFault.{LldpFault}
use Rattle.exb_lldp.specs.Announcements.{announced as announcement_in}
use Rattle.exb_ecp.specs.declared.pdu.Pdu.{Pdu}
use Rattle.exb_ecp.specs.declared.pdu.EcpFault.{EcpFault}
use Rattle.exb_ecp.specs.Frames.{pdu_in}
use Rattle.exb_ecp.specs.StopAndWait.{is_fresh}
use Rattle.exb_ecp.specs.StopAndWait.{heard as received}
use Rattle.exb_csp.specs.declared.fault.CspFault.{CspFault}
use Rattle.exb_csp.specs.declared.message.Message.{Message}
use Rattle.exb_csp.specs.Decoding.{read_message}
use Rattle.exb_csp.specs.declared.session.asker.Taken.{Taken}
use Rattle.exb_csp.specs.declared.session.asker.Taken.TheVariants as taken
use Rattle.exb_csp.specs.Sessions.AskingEnd.{AskerState, took, beaten}
use Rattle.exb_extender.specs.declared.sends.Side.TheVariants as side
use Rattle.exb_extender.specs.Forwarding.{has_etag_type}
use Rattle.exb_extender.specs.Machine.{Arrives, Reaction, react}
use Rattle.exb_link.specs.declared.link_frame.LinkFrame.{LinkFrame}
use Rattle.exb_link.specs.LinkFrames.{is_control, without_data, without_control}
use Rattle.exb_control_spec.specs.Decisions.{decide}
use Rattle.exb_control_spec.specs.Machine.{State, Work, still, with_asker, answered, answered_where, answered_in, heard, ordered, wakes, beats_in}
use Rattle.exb_control_spec.proofs.Runs.AskerAnswers.{beat_serial}
use Rattle.exb_world_spec.specs.BridgeLearning.{is_of, announced}
use Rattle.exb_world_spec.specs.Effects.{Effect, only}
use Rattle.exb_world_spec.specs.ExtenderSteps.{stamp_of, ignored, does_or_ignores, arrives_at, reacts, takes_from_below}
use Rattle.exb_world_spec.specs.ControlFrames.{bridge_acknowledgement, to_extender, stops, hears_message, hears_fresh, hears_request, hears_pdu, hears_frame, hears}
use Rattle.exb_world_spec.specs.DataFrames.{comes, comes_from, holder_by, hung_at, hears_from, takes_control, bridge_takes}
use Rattle.exb_world_spec.specs.Steps.{words_on, with_words, takes, takes_any, first_data, control_at, rest_of, counted, stepped}
use Rattle.exb_world_spec.specs.Worlds.{World, Way, Up, Down, Step, Arrive, Carry, Control, Lose, Beat, Tick, Order, Mark, with_near}
use Rattle.exb_settling_laws.proofs.ControlBeat.{moves_stays}
use Rattle.exb_settling_laws.proofs.OneRequest.{asked_alike, one_rises, ordered_asks, wakes_asks, answered_in_asks}
use Rattle.exb_settling_laws.proofs.ControlTurns.{does_ends, comes_ends, comes_from_ends, reacts_ends, to_extender_ends, beat_control}
use Rattle.exb_settling_laws.proofs.SendableRequests.{took_serial}

-- ---- what the bridge's control becomes when a word is taken: nothing, or what comes of one message or announcement
module _ (t : Shape) (l : Limits) (P : State → Type 0) (s : State) (is : P s) (heard_one : (n : ℕ) (a : Announce) → P (announced (decide t l) t n a s).state) (answered_one : (n : ℕ) (m : Message) → P (answered (decide t l) n m s).state) where
  as_it_was : (v : World) → v.control ≡ s → P v.control
  as_it_was v e = subst P (sym e) is

  stops_control : (u : Taken) (n : ℕ) (v : World) → (stops u n v).control ≡ v.control
  stops_control (taken.Answer response) n v = refl
  stops_control taken.Stale n v = refl
  stops_control taken.NotOurs n v = refl

  message_so : (n : ℕ) (r : Result Message CspFault) (v : World) → v.control ≡ s → P (hears_message t l n r v).world.control
  message_so n (Err fault) v e = as_it_was v e
  message_so n (Ok m) v e =
      subst P (sym (moves_stays t (answered (decide t l) n m v.control) (stops (took (v.control.askers n) m).1 n v)).control) (subst (λ (z : State). P (answered (decide t l) n m z).state) (sym e) (answered_one n m))

  fresh_so : (n : ℕ) (b : Bool) (sequence : ℕ) (payload : List ℕ) (v : World) → v.control ≡ s → P (hears_fresh t l n b sequence payload v).world.control
  fresh_so n true sequence payload v e = message_so n (read_message payload) (with_near n (received sequence (v.near n)) v) e
  fresh_so n false sequence payload v e = as_it_was v e

  request_so : (n sequence : ℕ) (payload : List ℕ) (v : World) → v.control ≡ s → P (hears_request t l n sequence payload v).world.control
  request_so n sequence payload v e =
      fresh_so n (is_fresh sequence ((to_extender t n (bridge_acknowledgement sequence) v).world.near n)) sequence payload (to_extender t n (bridge_acknowledgement sequence) v).world
      ((to_extender_ends t n (bridge_acknowledgement sequence) v).control ∙ e)

  pdu_so : (n : ℕ) (r : Result Pdu EcpFault) (f : List ℕ) (v : World) → v.control ≡ s → P (hears_pdu t l n r f v).world.control
  pdu_so n (Err fault) f v e = as_it_was v e
  pdu_so n (Ok p) f v e =
      elim (cases_Bool (p.subtype == 2)) [
        | inr x ↦ rw x (as_it_was v e)
        | inl x ↦ elim (cases_Bool p.acknowledgement) [
          | inl a ↦ rw (x, a) (as_it_was v e)
          | inr a ↦ rw (x, a) (request_so n p.sequence (drop 18 f) v e)
        ]
      ]

  frame_so : (n : ℕ) (r : Result Announce LldpFault) (f : List ℕ) (v : World) → v.control ≡ s → P (hears_frame t l n r f v).world.control
  frame_so n (Ok a) f v e = subst P (sym (moves_stays t (announced (decide t l) t n a v.control) v).control) (subst (λ (z : State). P (announced (decide t l) t n a z).state) (sym e) (heard_one n a))
  frame_so n (Err fault) f v e = pdu_so n (pdu_in f) f v e

  hears_so : (n : ℕ) (f : List ℕ) (v : World) → v.control ≡ s → P (hears t l n f v).world.control
  unfolding hears
  hears_so n f v e = frame_so n (announcement_in f) f v e

  from_so : (o : Option ℕ) (f : List ℕ) (v : World) → v.control ≡ s → P (hears_from t l o f v).world.control
  from_so None f v e = as_it_was v e
  from_so (Some n) f v e = hears_so n f v e

  either_so : (b : Bool) (e f : Effect) → P e.world.control → P f.world.control → P (cond b e f).world.control
  either_so true e f x y = x
  either_so false e f x y = y

  bridge_so : (k m : ℕ) (x : LinkFrame) (v : World) → v.control ≡ s → P (bridge_takes t l k m x v).world.control
  bridge_so k m x v e =
      either_so (is_control x) (takes_control t l k m x.bytes v) (comes_from t (holder_by v k (read_etag x.bytes)) x.stamp (stripped x.bytes) v)
      (either_so (has_etag_type x.bytes) (hears_from t l (hung_at t (holder_by v k (read_etag x.bytes))) (stripped x.bytes) v) (hears t l m x.bytes v)
      (from_so (hung_at t (holder_by v k (read_etag x.bytes))) (stripped x.bytes) v e) (hears_so m x.bytes v e))
      (as_it_was (comes_from t (holder_by v k (read_etag x.bytes)) x.stamp (stripped x.bytes) v).world ((comes_from_ends t (holder_by v k (read_etag x.bytes)) x.stamp (stripped x.bytes) v).control ∙ e))

  pub takes_so : (n : ℕ) (way : Way) (x : LinkFrame) (v : World) → v.control ≡ s → P (takes t l n way x v).world.control
  takes_so n Up x v e =
      either_so (nat_lt (on t n) 64) (bridge_takes t l (on t n) n x v) (takes_from_below t (device (on t n)) (port_number (on t n)) x v) (bridge_so (on t n) n x v e)
      (either_so ((v.far (device (on t n))).tables.cascade (port_number (on t n))) (reacts t (device (on t n)) x.stamp (Arrives (side.Port (port_number (on t n))) x.bytes) v) (only v)
      (as_it_was (reacts t (device (on t n)) x.stamp (Arrives (side.Port (port_number (on t n))) x.bytes) v).world ((reacts_ends t (device (on t n)) x.stamp (Arrives (side.Port (port_number (on t n))) x.bytes) v).control ∙ e)) (as_it_was v e))
  takes_so n Down x v e = as_it_was (reacts t n x.stamp (Arrives side.Up x.bytes) v).world ((reacts_ends t n x.stamp (Arrives side.Up x.bytes) v).control ∙ e)

-- ---- serials
abbrev Rises : State → State → Type 0
Rises s z = (n : ℕ) → (z.askers n).serial ≤ (s.askers n).serial + 1

same_rises : (s z : State) → z ≡ s → Rises s z
same_rises s z e n = (let same : (z.askers n).serial ≡ (s.askers n).serial = ap (λ (x : State). (x.askers n).serial) e in omega (arith, same))

module _ (t : Shape) (l : Limits) where
  heard_rises : (n : ℕ) (a : Announce) (s : State) → Rises s (announced (decide t l) t n a s).state
  heard_rises n a s = by_test (is_of t n a)
    where
      by_test : (b : Bool) → Rises s (cond b (heard (decide t l) n s) (still s)).state
      by_test true =
          let u : State = record s { heard = λ m. m == n || s.heard m } in
          one_rises s (heard (decide t l) n s) (asked_alike s u (wakes (decide t l) u) refl (wakes_asks (decide t l) u))
      by_test false = same_rises s s refl

  with_rises : (n : ℕ) (a : AskerState) (s : State) → a.serial ≡ (s.askers n).serial → (m : ℕ) → ((with_asker n a s).askers m).serial ≡ (s.askers m).serial
  with_rises n a s e m = elim (cases_eq m n) [ inl f ↦ rw (f, eq-eqb n n refl) e | inr f ↦ rw (ne_eqb m n f) refl ]

  answered_rises : (n : ℕ) (m : Message) (s : State) → Rises s (answered (decide t l) n m s).state
  answered_rises n m s = by_taken (took (s.askers n) m).1 (took (s.askers n) m).0 (took_serial (s.askers n) m)
    where
      still_so : (a : AskerState) → a.serial ≡ (s.askers n).serial → Rises s (with_asker n a s)
      still_so a e i = (let same = with_rises n a s e i in omega (arith, same))

      by_taken : (u : Taken) (a : AskerState) → a.serial ≡ (s.askers n).serial → Rises s (answered_where (decide t l) u (with_asker n a s)).state
      by_taken (taken.Answer response) a e = λ i.
          let more = one_rises (with_asker n a s) (answered_in (decide t l) s.work (with_asker n a s)) (answered_in_asks (decide t l) s.work (with_asker n a s)) i in
          let same = with_rises n a s e i in
          omega (arith, more, same)
      by_taken taken.Stale a e = still_so a e
      by_taken taken.NotOurs a e = still_so a e

  taken_rises : (n : ℕ) (way : Way) (x : LinkFrame) (s : State) (v : World) → v.control ≡ s → Rises s (takes t l n way x v).world.control
  taken_rises n way x s v e = takes_so t l (λ (z : State). Rises s z) s (same_rises s s refl) (λ i a. heard_rises i a s) (λ i m. answered_rises i m s) n way x v e

  with_control : (n : ℕ) (way : Way) (ws : List LinkFrame) (w : World) → (with_words n way ws w).control ≡ w.control
  with_control n Up ws w = refl
  with_control n Down ws w = refl

  any_rises : (n : ℕ) (way : Way) (o : Option LinkFrame) (rest : List LinkFrame) (w : World) → Rises w.control (takes_any t l n way o rest w).world.control
  any_rises n way None rest w = same_rises w.control w.control refl
  any_rises n way (Some x) rest w = taken_rises n way x w.control (with_words n way rest w) (with_control n way rest w)

  beats_rises : (o : Option Work) (s : State) → Rises s (beats_in o s).state
  beats_rises None s = same_rises s s refl
  beats_rises (Some v) s = λ n. (let same = with_rises v.first.extender (beaten (s.askers v.first.extender)).0 s (beat_serial (s.askers v.first.extender)) n in omega (arith, same))

  arrives_control : (a : Arrival) (w : World) → (cond (nat_lt a.port 64) (comes t a w) (arrives_at t a w)).world.control ≡ w.control
  arrives_control a w = by_port (nat_lt a.port 64)
    where
      by_sent : (r : Reaction) → (does_or_ignores t a r w).world.control ≡ w.control
      by_sent (s, []) = refl
      by_sent (s, x ∷ xs) = (does_ends t (device a.port) (Some (stamp_of a)) (s, x ∷ xs) w).control

      by_kind : (b : Bool) → (cond b (ignored a w) (does_or_ignores t a (react (Arrives (side.Port (port_number a.port)) a.bytes) (w.far (device a.port))) w)).world.control ≡ w.control
      by_kind true = refl
      by_kind false = by_sent (react (Arrives (side.Port (port_number a.port)) a.bytes) (w.far (device a.port)))

      by_port : (b : Bool) → (cond b (comes t a w) (arrives_at t a w)).world.control ≡ w.control
      by_port true = (comes_ends t a w).control
      by_port false = by_kind ((w.far (device a.port)).tables.cascade (port_number a.port))

  pub serials_rise : (tree : IsTree t) (step : Step) (w : World) → Rises w.control (stepped t l step w).world.control
  unfolding stepped
  serials_rise tree (Arrive a) w = same_rises w.control _ (arrives_control a (counted a w))
  serials_rise tree (Carry n way) w = any_rises n way (first_data (words_on n way w)) (without_data (words_on n way w)) w
  serials_rise tree (Control n way k keep) w = any_rises n way (control_at (words_on n way w) k) (rest_of keep (words_on n way w) k) w
  serials_rise tree (Lose n way k) w = same_rises w.control _ (with_control n way (without_control (words_on n way w) k) w)
  serials_rise tree Beat w = λ n. subst (λ (z : State). (z.askers n).serial ≤ (w.control.askers n).serial + 1) (sym (beat_control t l tree w)) (beats_rises w.control.work w.control n)
  serials_rise tree (Tick seconds) w = same_rises w.control w.control refl
  serials_rise tree (Order c) w =
      subst (λ (z : State). Rises w.control z) (sym (moves_stays t (ordered (decide t l) c w.control) w).control) (one_rises w.control (ordered (decide t l) c w.control) (ordered_asks (decide t l) c w.control))
  serials_rise tree Mark w = same_rises w.control w.control refl
