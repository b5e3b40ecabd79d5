-- Whoever takes a word, what is left to be shown of each extender's end is kept: the bridge leaves extenders as they are, a word
-- that goes upwards leaves them too, and one from above is forwarded, or heard by the extender to which it comes.
use Rattle.std.proofs.Common.{◌≡◌, inl, inr, ℕ, ◌==◌, nat_lt, Bool, true, false, cond, List, [], drop, Option, Some, None, Ok, Err, refl, sym, ◌∙◌, subst}
use Rattle.std.specs.Prelude.{Result}
use Rattle.std.proofs.lemmas.Bool.{cases_Bool, cases_eq}
use Rattle.exb_model.specs.Tree.{Shape, device, on, port_number}
use Rattle.exb_model.specs.Setup.{Limits}
use Rattle.exb_model.specs.ETags.{read_etag, stripped}
use Rattle.exb_lldp.specs.declared.announce.Announce.{Announce}
use Rattle.exb_lldp.specs.declared.announce.LldpFault.{LldpFault}
use Rattle.exb_lldp.specs.Announcements.{announced as announcement_in}
use Rattle.exb_ecp.specs.declared.pdu.Pdu.{Pdu}
use Rattle.exb_ecp.specs.declared.pdu.EcpFault.{EcpFault}
use Rattle.exb_ecp.specs.Frames.{pdu_in}
use Rattle.exb_ecp.specs.StopAndWait.{is_fresh}
use Rattle.exb_ecp.specs.StopAndWait.{heard as received}
use Rattle.exb_csp.specs.declared.fault.CspFault.{CspFault}
use Rattle.exb_csp.specs.declared.message.Body.{Body}
use Rattle.exb_csp.specs.declared.message.Body.TheVariants as body
use Rattle.exb_csp.specs.declared.message.Message.{Message}
use Rattle.exb_csp.specs.declared.message.Request.{Request}
use Rattle.exb_csp.specs.Decoding.{read_message}
use Rattle.exb_csp.specs.declared.session.asker.Taken.{Taken}
use Rattle.exb_csp.specs.declared.session.asker.Taken.TheVariants as taken
use Rattle.exb_csp.specs.Sessions.AskingEnd.{took}
use Rattle.exb_extender.specs.declared.sends.Side.TheVariants as side
use Rattle.exb_extender.specs.Forwarding.{emitted, has_etag_type, is_bare_control}
use Rattle.exb_extender.specs.Machine.{ExtenderState, Arrives, react, takes_body, takes_message}
use Rattle.exb_extender.specs.Machine.{hears as extender_hears, hears_request as extender_hears_request, hears_pdu as extender_hears_pdu}
use Rattle.exb_link.specs.declared.link_frame.LinkFrame.{LinkFrame}
use Rattle.exb_link.specs.LinkFrames.{is_control}
use Rattle.exb_control_spec.specs.Decisions.{decide}
use Rattle.exb_control_spec.specs.Machine.{answered}
use Rattle.exb_world_spec.specs.Worlds.{World, Up, Down, with_near, with_far}
use Rattle.exb_model.specs.Tables.{at}
use Rattle.exb_world_spec.specs.Effects.{Effect, only}
use Rattle.exb_world_spec.specs.ExtenderSteps.{reacts, takes_from_below}
use Rattle.exb_world_spec.specs.ControlFrames.{bridge_acknowledgement, to_extender, stops, hears_message, hears_fresh, hears_request, hears_pdu, hears_frame, hears}
use Rattle.exb_world_spec.specs.DataFrames.{holder_by, hung_at, hears_from, takes_control, comes_from, bridge_takes}
use Rattle.exb_world_spec.specs.Steps.{takes}
use Rattle.exb_world_spec.proofs.LinkFrames.{at_here, at_other, at_itself}
use Rattle.exb_settling_laws.specs.RemainingFacts.{FarLeft}
use Rattle.exb_settling_laws.proofs.FrameAtBridge.{comes_from_far}
use Rattle.exb_settling_laws.proofs.ControlBeat.{moves_stays}
use Rattle.exb_settling_laws.proofs.StopAndWaitSteps.{MayAsk, far_takes, far_acknowledged, far_received}
use Rattle.exb_settling_laws.proofs.NearBeats.{to_extender_stays}
use Rattle.exb_settling_laws.proofs.UpwardSessions.{each_far}

-- ---- an extender hears
-- each request that a frame carries may be asked
pub record MayHear (s : ExtenderState) (f : List ℕ) : Type 0 where
  pub asks : (p : Pdu) (m : Message) (request : Request) → pdu_in f ≡ Ok p → p.acknowledgement ≡ false → read_message (drop 18 f) ≡ Ok m → m.body ≡ body.Ask request → MayAsk s m.serial request

module _ (s : ExtenderState) (f : List ℕ) (may : MayHear s f) (left : FarLeft s) where
  takes_left : (p : Pdu) → pdu_in f ≡ Ok p → p.acknowledgement ≡ false → (r : Result Message CspFault) → read_message (drop 18 f) ≡ r → FarLeft (takes_message r (record s { ecp = received p.sequence s.ecp })).0
  takes_left p d a (Err fault) e = far_received p.sequence s left
  takes_left p d a (Ok m) e = by_body m.body refl
    where
      by_body : (b : Body) → m.body ≡ b → FarLeft (takes_body m.serial b (record s { ecp = received p.sequence s.ecp })).0
      by_body (body.Answer response) g = far_received p.sequence s left
      by_body (body.Ask request) g =
          let k : MayAsk s m.serial request = may.asks p m request d a e g in
          far_takes (record s { ecp = received p.sequence s.ecp }) m.serial request (record { stored = k.stored; answer = k.answer; first = k.first }) (far_received p.sequence s left)

  request_left : (p : Pdu) → pdu_in f ≡ Ok p → p.acknowledgement ≡ false → FarLeft (extender_hears_request p.sequence (drop 18 f) s).0
  request_left p d a = by_fresh (is_fresh p.sequence s.ecp)
    where
      by_fresh : (b : Bool) → FarLeft (cond b (takes_message (read_message (drop 18 f)) (record s { ecp = received p.sequence s.ecp })) (s, [])).0
      by_fresh true = takes_left p d a (read_message (drop 18 f)) refl
      by_fresh false = left

  pdu_left : (r : Result Pdu EcpFault) → pdu_in f ≡ r → FarLeft (extender_hears_pdu r f s).0
  pdu_left (Err fault) d = left
  pdu_left (Ok p) d =
      elim (cases_Bool (p.subtype == 2)) [
        | inr e ↦ rw e left
        | inl e ↦ elim (cases_Bool p.acknowledgement) [
          | inl a ↦ rw (e, a) (far_acknowledged p.sequence s left)
          | inr a ↦ rw (e, a) (request_left p d a)
        ]
      ]

  pub hears_left : FarLeft (extender_hears f s).0
  unfolding extender_hears
  hears_left = pdu_left (pdu_in f) refl

-- ---- the bridge hears
module _ (t : Shape) (l : Limits) where
  stops_far : (u : Taken) (n : ℕ) (w : World) → (stops u n w).far ≡ w.far
  stops_far (taken.Answer response) n w = refl
  stops_far taken.Stale n w = refl
  stops_far taken.NotOurs n w = refl

  message_far : (n : ℕ) (r : Result Message CspFault) (w : World) → (hears_message t l n r w).world.far ≡ w.far
  message_far n (Err fault) w = refl
  message_far n (Ok m) w = (moves_stays t (answered (decide t l) n m w.control) (stops (took (w.control.askers n) m).1 n w)).far ∙ stops_far (took (w.control.askers n) m).1 n w

  fresh_far : (n : ℕ) (b : Bool) (sequence : ℕ) (payload : List ℕ) (w : World) → (hears_fresh t l n b sequence payload w).world.far ≡ w.far
  fresh_far n true sequence payload w = message_far n (read_message payload) (with_near n (received sequence (w.near n)) w)
  fresh_far n false sequence payload w = refl

  request_far : (n sequence : ℕ) (payload : List ℕ) (w : World) → (hears_request t l n sequence payload w).world.far ≡ w.far
  request_far n sequence payload w =
      fresh_far n (is_fresh sequence ((to_extender t n (bridge_acknowledgement sequence) w).world.near n)) sequence payload (to_extender t n (bridge_acknowledgement sequence) w).world
      ∙ (to_extender_stays t n (bridge_acknowledgement sequence) w).far

  pdu_far : (n : ℕ) (r : Result Pdu EcpFault) (f : List ℕ) (w : World) → (hears_pdu t l n r f w).world.far ≡ w.far
  pdu_far n (Err fault) f w = refl
  pdu_far n (Ok p) f w =
      elim (cases_Bool (p.subtype == 2)) [
        | inr e ↦ rw e refl
        | inl e ↦ elim (cases_Bool p.acknowledgement) [
          | inl a ↦ rw (e, a) refl
          | inr a ↦ rw (e, a) (request_far n p.sequence (drop 18 f) w)
        ]
      ]

  frame_far : (n : ℕ) (r : Result Announce LldpFault) (f : List ℕ) (w : World) → (hears_frame t l n r f w).world.far ≡ w.far
  frame_far n (Ok a) f w = (moves_stays t (Rattle.exb_world_spec.specs.BridgeLearning.announced (decide t l) t n a w.control) w).far
  frame_far n (Err fault) f w = pdu_far n (pdu_in f) f w

  hears_far : (n : ℕ) (f : List ℕ) (w : World) → (hears t l n f w).world.far ≡ w.far
  unfolding hears
  hears_far n f w = frame_far n (announcement_in f) f w

  from_far : (o : Option ℕ) (f : List ℕ) (w : World) → (hears_from t l o f w).world.far ≡ w.far
  from_far None f w = refl
  from_far (Some n) f w = hears_far n f w

  either_far : (b : Bool) (e f : Effect) (w : World) → e.world.far ≡ w.far → f.world.far ≡ w.far → (cond b e f).world.far ≡ w.far
  either_far true e f w x y = x
  either_far false e f w x y = y

  pub bridge_far : (k m : ℕ) (x : LinkFrame) (w : World) → (bridge_takes t l k m x w).world.far ≡ w.far
  bridge_far k m x w =
      either_far (is_control x) (takes_control t l k m x.bytes w) (comes_from t (holder_by w k (read_etag x.bytes)) x.stamp (stripped x.bytes) w) w
      (either_far (has_etag_type x.bytes) (hears_from t l (hung_at t (holder_by w k (read_etag x.bytes))) (stripped x.bytes) w) (hears t l m x.bytes w) w
      (from_far (hung_at t (holder_by w k (read_etag x.bytes))) (stripped x.bytes) w) (hears_far m x.bytes w))
      (comes_from_far t (holder_by w k (read_etag x.bytes)) x.stamp (stripped x.bytes) w)

  below_far : (a k : ℕ) (x : LinkFrame) (w : World) → (takes_from_below t a k x w).world.far ≡ w.far
  below_far a k x w =
      either_far ((w.far a).tables.cascade k) (reacts t a x.stamp (Arrives (side.Port k) x.bytes) w) (only w) w
      (each_far t a x.stamp (emitted (w.far a).tables (side.Port k) x.bytes) (with_far a (w.far a) w) ∙ at_itself a w.far) refl

  -- ---- whoever takes a word
  pub taken_up_far : (n : ℕ) (x : LinkFrame) (w : World) → (takes t l n Up x w).world.far ≡ w.far
  taken_up_far n x w = either_far (nat_lt (on t n) 64) (bridge_takes t l (on t n) n x w) (takes_from_below t (device (on t n)) (port_number (on t n)) x w) w (bridge_far (on t n) n x w) (below_far (device (on t n)) (port_number (on t n)) x w)

  pub taken_down_left : (n : ℕ) (x : LinkFrame) (w : World) → (is_bare_control x.bytes ≡ true → MayHear (w.far n) x.bytes) → (j : ℕ) → FarLeft (w.far n) → FarLeft (w.far j) → FarLeft ((takes t l n Down x w).world.far j)
  taken_down_left n x w may j left_n left =
      let far : (takes t l n Down x w).world.far ≡ at n (react (Arrives side.Up x.bytes) (w.far n)).0 w.far =
      each_far t n x.stamp (react (Arrives side.Up x.bytes) (w.far n)).1 (with_far n (react (Arrives side.Up x.bytes) (w.far n)).0 w) in
      let P : (ℕ → ExtenderState) → Type 0 = λ g. FarLeft (g j) in
      subst P (sym far) (
      elim (cases_eq n j) [
        | inl e ↦ (let Q : ℕ → Type 0 = λ z. FarLeft (at n (react (Arrives side.Up x.bytes) (w.far n)).0 w.far z) in
            subst Q e (subst FarLeft (sym (at_here n (react (Arrives side.Up x.bytes) (w.far n)).0 w.far)) (by_bare (is_bare_control x.bytes) refl)))
        | inr e ↦ subst FarLeft (sym (at_other n j (react (Arrives side.Up x.bytes) (w.far n)).0 w.far (λ z. e (sym z)))) left
      ])
    where
      by_bare : (b : Bool) → is_bare_control x.bytes ≡ b → FarLeft (cond b (extender_hears x.bytes (w.far n)) (w.far n, emitted (w.far n).tables side.Up x.bytes)).0
      by_bare true e = hears_left (w.far n) x.bytes (may e) left_n
      by_bare false e = left_n
