-- Whoever takes a word, what is left to be shown of the bridge's ends is kept.
use Rattle.std.proofs.Common.{◌≡◌, ◌⊎◌, inl, inr, ℕ, ◌==◌, ◌||◌, nat_lt, not, Bool, true, false, cond, List, drop, Option, Some, None, Ok, Err, refl, sym, subst}
use Rattle.std.specs.Prelude.{Result}
use Rattle.std.proofs.lemmas.Bool.{cases_Bool, cases_eq, eq-eqb, ne_eqb}
use Rattle.exb_model.specs.Tree.{Shape, device, on, port_number}
use Rattle.exb_model.specs.Setup.{Limits}
use Rattle.exb_model.specs.ETags.{read_etag, stripped}
use Rattle.exb_lldp.specs.declared.announce.Announce.{Announce}
use Rattle.exb_lldp.specs.declared.announce.LldpFault.{LldpFault}
use Rattle.exb_lldp.specs.Announcements.{announced as announcement_in}
use Rattle.exb_ecp.specs.declared.pdu.Pdu.{Pdu}
use Rattle.exb_ecp.specs.declared.pdu.EcpFault.{EcpFault}
use Rattle.exb_ecp.specs.Frames.{pdu_in}
use Rattle.exb_ecp.specs.StopAndWait.{State as Ecp, acknowledged, is_fresh, stopped}
use Rattle.exb_ecp.specs.StopAndWait.{heard as received}
use Rattle.exb_csp.specs.declared.fault.CspFault.{CspFault}
use Rattle.exb_csp.specs.declared.message.Body.{Body}
use Rattle.exb_csp.specs.declared.message.Body.TheVariants as body
use Rattle.exb_csp.specs.declared.message.Message.{Message}
use Rattle.exb_csp.specs.declared.message.Request.{Request}
use Rattle.exb_csp.specs.declared.message.Response.{Response}
use Rattle.exb_csp.specs.RequestKinds.{kind_of, same_kind}
use Rattle.exb_csp.specs.Decoding.{read_message}
use Rattle.exb_csp.specs.declared.session.asker.Taken.{Taken}
use Rattle.exb_csp.specs.declared.session.asker.Taken.TheVariants as taken
use Rattle.exb_csp.specs.Sessions.AskingEnd.{AskerState, took, took_body}
use Rattle.exb_extender.specs.declared.sends.Side.TheVariants as side
use Rattle.exb_extender.specs.Forwarding.{has_etag_type}
use Rattle.exb_extender.specs.Machine.{Arrives}
use Rattle.exb_link.specs.declared.link_frame.LinkFrame.{LinkFrame}
use Rattle.exb_link.specs.LinkFrames.{is_control}
use Rattle.exb_control_spec.specs.Decisions.{decide}
use Rattle.exb_control_spec.specs.Machine.{State, Moved, with_asker, answered, answered_where, answered_in, heard, wakes}
use Rattle.exb_world_spec.specs.Worlds.{World, Way, Up, Down, with_near}
use Rattle.exb_model.specs.Tables.{at}
use Rattle.exb_world_spec.specs.BridgeLearning.{is_of, announced}
use Rattle.exb_world_spec.specs.Effects.{Effect, only}
use Rattle.exb_world_spec.specs.ExtenderSteps.{reacts, takes_from_below}
use Rattle.exb_world_spec.specs.ControlFrames.{bridge_acknowledgement, to_extender, moves, stops, hears_message, hears_fresh, hears_request, hears_pdu, hears_frame, hears}
use Rattle.exb_world_spec.specs.DataFrames.{holder_by, hung_at, hears_from, takes_control, comes_from, bridge_takes}
use Rattle.exb_world_spec.specs.Runs.Sessions.{AreSent}
use Rattle.exb_world_spec.specs.Steps.{takes}
use Rattle.exb_world_spec.proofs.LinkFrames.{at_here, at_other}
use Rattle.exb_settling_laws.specs.RemainingFacts.{NearLeft}
use Rattle.exb_settling_laws.proofs.ControlBeat.{moves_stays}
use Rattle.exb_settling_laws.proofs.StopAndWaitSteps.{near_answered, near_acknowledged, near_received}
use Rattle.exb_settling_laws.proofs.OneRequest.{AsksOne, asked_alike, wakes_asks, answered_in_asks, moves_left}
use Rattle.exb_settling_laws.proofs.ControlTurns.{SameEnds, to_extender_ends, comes_from_ends, reacts_ends}

-- all of the bridge's ends
abbrev pub NearAllLeft : World → Type 0
NearAllLeft w = (n : ℕ) → NearLeft (w.near n) (w.control.askers n)

-- each request that goes out when a message or an announcement comes can be sent
pub record CanSend (t : Shape) (l : Limits) (s : State) : Type 0 where
  pub answers : (n : ℕ) (m : Message) → AreSent (answered (decide t l) n m s).asks
  pub hears : (n : ℕ) (a : Announce) → AreSent (announced (decide t l) t n a s).asks

-- ---- what a message is
abbrev Took : AskerState → AskerState × Taken → Type 0
Took a p = (p ≡ (a, taken.Stale)) ⊎ ((p ≡ (a, taken.NotOurs)) ⊎ ((response : Response) × (p ≡ (record { serial = a.serial; waiting = None; beats = 0 }, taken.Answer response))))

took_so : (a : AskerState) (m : Message) → Took a (took a m)
took_so a m = by_waiting a.waiting m.body
  where
    by_tests : (response : Response) (x y : Bool) → Took a (cond x (a, taken.Stale) (cond y (a, taken.NotOurs) (record { serial = a.serial; waiting = None; beats = 0 }, taken.Answer response)))
    by_tests response true y = inl refl
    by_tests response false true = inr (inl refl)
    by_tests response false false = inr (inr (response, refl))

    by_waiting : (o : Option Request) (b : Body) → Took a (took_body a o m.serial b)
    by_waiting None b = inr (inl refl)
    by_waiting (Some request) (body.Ask other) = inr (inl refl)
    by_waiting (Some request) (body.Answer response) = by_tests response (nat_lt m.serial a.serial) (nat_lt a.serial m.serial || not (same_kind response.to (kind_of request)))

-- an end and its asker change together
at_both : (n : ℕ) (e : Ecp) (a : AskerState) (f : ℕ → Ecp) (g : ℕ → AskerState) → NearLeft e a → ((j : ℕ) → NearLeft (f j) (g j)) → (j : ℕ) → NearLeft (at n e f j) (cond (j == n) a (g j))
at_both n e a f g one all j =
    elim (cases_Bool (j == n)) [
      | inl z ↦ rw z one
      | inr z ↦ rw z (all j)
    ]

at_one : (n : ℕ) (e : Ecp) (f : ℕ → Ecp) (g : ℕ → AskerState) → NearLeft e (g n) → ((j : ℕ) → NearLeft (f j) (g j)) → (j : ℕ) → NearLeft (at n e f j) (g j)
at_one n e f g one all j =
    elim (cases_eq j n) [
      | inl z ↦ (let P : ℕ → Type 0 = λ i. NearLeft (at n e f i) (g i) in subst P (sym z) (subst (λ (x : Ecp). NearLeft x (g n)) (sym (at_here n e f)) one))
      | inr z ↦ subst (λ (x : Ecp). NearLeft x (g j)) (sym (at_other n j e f z)) (all j)
    ]

asker_itself : (n : ℕ) (f : ℕ → Ecp) (g : ℕ → AskerState) → ((j : ℕ) → NearLeft (f j) (g j)) → (j : ℕ) → NearLeft (f j) (cond (j == n) (g n) (g j))
asker_itself n f g all j =
    elim (cases_eq j n) [
      | inl z ↦ (let P : Bool → Type 0 = λ b. NearLeft (f j) (cond b (g n) (g j)) in subst P (sym (eq-eqb j n z)) (let Q : ℕ → Type 0 = λ i. NearLeft (f j) (g i) in subst Q z (all j)))
      | inr z ↦ (let P : Bool → Type 0 = λ b. NearLeft (f j) (cond b (g n) (g j)) in subst P (sym (ne_eqb j n z)) (all j))
    ]

module _ (t : Shape) (l : Limits) where
  -- a step of the machine of changes
  pub moved_all : (m : Moved) (w : World) → ((j : ℕ) → NearLeft ((moves t m w).world.near j) (m.state.askers j)) → NearAllLeft (moves t m w).world
  moved_all m w all j = (let P : State → Type 0 = λ s. NearLeft ((moves t m w).world.near j) (s.askers j) in subst P (sym (moves_stays t m w).control) (all j))

  pub kept_all : (w v : World) → SameEnds w v → NearAllLeft w → NearAllLeft v
  kept_all w v e all j =
      let P : State → Type 0 = λ s. NearLeft (v.near j) (s.askers j) in
      let Q : (ℕ → Ecp) → Type 0 = λ f. NearLeft (f j) (w.control.askers j) in
      subst P (sym e.control) (subst Q (sym e.near) (all j))

  message_left : (n : ℕ) (r : Result Message CspFault) (w : World) → CanSend t l w.control → NearAllLeft w → NearAllLeft (hears_message t l n r w).world
  message_left n (Err fault) w can all = all
  message_left n (Ok m) w can all = moved_all (answered (decide t l) n m w.control) (stops (took (w.control.askers n) m).1 n w) (by_taken (took (w.control.askers n) m) (took_so (w.control.askers n) m) (can.answers n m))
    where
      by_taken : (p : AskerState × Taken) → Took (w.control.askers n) p → AreSent (answered_where (decide t l) p.1 (with_asker n p.0 w.control)).asks →
          (j : ℕ) → NearLeft ((moves t (answered_where (decide t l) p.1 (with_asker n p.0 w.control)) (stops p.1 n w)).world.near j) ((answered_where (decide t l) p.1 (with_asker n p.0 w.control)).state.askers j)
      by_taken p (inl e) sent =
          let P : AskerState × Taken → Type 0 = λ q. (j : ℕ) → NearLeft ((moves t (answered_where (decide t l) q.1 (with_asker n q.0 w.control)) (stops q.1 n w)).world.near j) ((answered_where (decide t l) q.1 (with_asker n q.0 w.control)).state.askers j) in
          subst P (sym e) (asker_itself n w.near w.control.askers all)
      by_taken p (inr (inl e)) sent =
          let P : AskerState × Taken → Type 0 = λ q. (j : ℕ) → NearLeft ((moves t (answered_where (decide t l) q.1 (with_asker n q.0 w.control)) (stops q.1 n w)).world.near j) ((answered_where (decide t l) q.1 (with_asker n q.0 w.control)).state.askers j) in
          subst P (sym e) (asker_itself n w.near w.control.askers all)
      by_taken p (inr (inr k)) sent =
          let P : AskerState × Taken → Type 0 = λ q. (j : ℕ) → NearLeft ((moves t (answered_where (decide t l) q.1 (with_asker n q.0 w.control)) (stops q.1 n w)).world.near j) ((answered_where (decide t l) q.1 (with_asker n q.0 w.control)).state.askers j) in
          let a : AskerState = record { serial = (w.control.askers n).serial; waiting = None; beats = 0 } in
          let s : State = with_asker n (record { serial = (w.control.askers n).serial; waiting = None; beats = 0 }) w.control in
          let S : AskerState × Taken → Type 0 = λ q. AreSent (answered_where (decide t l) q.1 (with_asker n q.0 w.control)).asks in
          subst P (sym k.1) (
          moves_left t (answered_in (decide t l) w.control.work s) s (with_near n (stopped (w.near n)) w) (answered_in_asks (decide t l) w.control.work s) (subst S k.1 sent)
          (at_both n (stopped (w.near n)) a w.near w.control.askers (near_answered (w.near n) (w.control.askers n) (all n)) all))

  fresh_left : (n : ℕ) (b : Bool) (sequence : ℕ) (payload : List ℕ) (w : World) → CanSend t l w.control → NearAllLeft w → NearAllLeft (hears_fresh t l n b sequence payload w).world
  fresh_left n false sequence payload w can all = all
  fresh_left n true sequence payload w can all =
      message_left n (read_message payload) (with_near n (received sequence (w.near n)) w) can (at_one n (received sequence (w.near n)) w.near w.control.askers (near_received sequence (w.near n) (w.control.askers n) (all n)) all)

  request_left : (n sequence : ℕ) (payload : List ℕ) (w : World) → CanSend t l w.control → NearAllLeft w → NearAllLeft (hears_request t l n sequence payload w).world
  request_left n sequence payload w can all =
      let e : SameEnds w (to_extender t n (bridge_acknowledgement sequence) w).world = to_extender_ends t n (bridge_acknowledgement sequence) w in
      fresh_left n (is_fresh sequence ((to_extender t n (bridge_acknowledgement sequence) w).world.near n)) sequence payload (to_extender t n (bridge_acknowledgement sequence) w).world
      (subst (CanSend t l) (sym e.control) can) (kept_all w (to_extender t n (bridge_acknowledgement sequence) w).world e all)

  pdu_left : (n : ℕ) (r : Result Pdu EcpFault) (f : List ℕ) (w : World) → CanSend t l w.control → NearAllLeft w → NearAllLeft (hears_pdu t l n r f w).world
  pdu_left n (Err fault) f w can all = all
  pdu_left n (Ok p) f w can all = by_tests (p.subtype == 2) p.acknowledgement
    where
      by_tests : (b c : Bool) → NearAllLeft (cond b (cond c (only (with_near n (acknowledged p.sequence (w.near n)) w)) (hears_request t l n p.sequence (drop 18 f) w)) (only w)).world
      by_tests false c = all
      by_tests true true = at_one n (acknowledged p.sequence (w.near n)) w.near w.control.askers (near_acknowledged p.sequence (w.near n) (w.control.askers n) (all n)) all
      by_tests true false = request_left n p.sequence (drop 18 f) w can all

  frame_left : (n : ℕ) (r : Result Announce LldpFault) (f : List ℕ) (w : World) → CanSend t l w.control → NearAllLeft w → NearAllLeft (hears_frame t l n r f w).world
  frame_left n (Err fault) f w can all = pdu_left n (pdu_in f) f w can all
  frame_left n (Ok a) f w can all = moved_all (announced (decide t l) t n a w.control) w (moves_left t (announced (decide t l) t n a w.control) w.control w (announced_asks (is_of t n a)) (can.hears n a) all)
    where
      announced_asks : (b : Bool) → AsksOne w.control (cond b (heard (decide t l) n w.control) (Rattle.exb_control_spec.specs.Machine.still w.control))
      announced_asks false = inl (record { asks = refl; askers = refl })
      announced_asks true =
          let s : State = record w.control { heard = λ m. m == n || w.control.heard m } in
          asked_alike w.control s (wakes (decide t l) s) refl (wakes_asks (decide t l) s)

  hears_left : (n : ℕ) (f : List ℕ) (w : World) → CanSend t l w.control → NearAllLeft w → NearAllLeft (hears t l n f w).world
  unfolding hears
  hears_left n f w can all = frame_left n (announcement_in f) f w can all

  from_left : (o : Option ℕ) (f : List ℕ) (w : World) → CanSend t l w.control → NearAllLeft w → NearAllLeft (hears_from t l o f w).world
  from_left None f w can all = all
  from_left (Some n) f w can all = hears_left n f w can all

  either_left : (b : Bool) (e f : Effect) → NearAllLeft e.world → NearAllLeft f.world → NearAllLeft (cond b e f).world
  either_left true e f x y = x
  either_left false e f x y = y

  bridge_left : (k m : ℕ) (x : LinkFrame) (w : World) → CanSend t l w.control → NearAllLeft w → NearAllLeft (bridge_takes t l k m x w).world
  bridge_left k m x w can all =
      either_left (is_control x) (takes_control t l k m x.bytes w) (comes_from t (holder_by w k (read_etag x.bytes)) x.stamp (stripped x.bytes) w)
      (either_left (has_etag_type x.bytes) (hears_from t l (hung_at t (holder_by w k (read_etag x.bytes))) (stripped x.bytes) w) (hears t l m x.bytes w)
      (from_left (hung_at t (holder_by w k (read_etag x.bytes))) (stripped x.bytes) w can all) (hears_left m x.bytes w can all))
      (kept_all w (comes_from t (holder_by w k (read_etag x.bytes)) x.stamp (stripped x.bytes) w).world (comes_from_ends t (holder_by w k (read_etag x.bytes)) x.stamp (stripped x.bytes) w) all)

  below_left : (a k : ℕ) (x : LinkFrame) (w : World) → NearAllLeft w → NearAllLeft (takes_from_below t a k x w).world
  below_left a k x w all =
      either_left ((w.far a).tables.cascade k) (reacts t a x.stamp (Arrives (side.Port k) x.bytes) w) (only w)
      (kept_all w (reacts t a x.stamp (Arrives (side.Port k) x.bytes) w).world (reacts_ends t a x.stamp (Arrives (side.Port k) x.bytes) w) all) all

  -- Whoever takes a word.
  pub taken_near_left : (n : ℕ) (way : Way) (x : LinkFrame) (w : World) → CanSend t l w.control → NearAllLeft w → NearAllLeft (takes t l n way x w).world
  taken_near_left n Up x w can all =
      either_left (nat_lt (on t n) 64) (bridge_takes t l (on t n) n x w) (takes_from_below t (device (on t n)) (port_number (on t n)) x w) (bridge_left (on t n) n x w can all) (below_left (device (on t n)) (port_number (on t n)) x w all)
  taken_near_left n Down x w can all = kept_all w (takes t l n Down x w).world (reacts_ends t n x.stamp (Arrives side.Up x.bytes) w) all
