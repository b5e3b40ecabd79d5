-- What the bridge hears of a frame, where nothing is done of what is planned: its end of that session hears the note, and no
-- other session changes.
use Rattle.std.proofs.Common.{◌≡◌, ◌≢◌, ◌⊎◌, inl, inr, ⊎_elim, ℕ, zero, suc, ◌<◌, ◌==◌, ◌&&◌, nat_lt, not, Bool, true, false, cond, List, [], ◌∷◌, ◌++◌, drop, Option, Some, None, Ok, Err, refl, ap, sym, ◌∙◌, subst, arith}
use Rattle.std.specs.Prelude.{Result, is_some}
use Rattle.std.proofs.lemmas.Bool.{cases_Bool, cases_lt, eqb-true, ltb-true}
use Rattle.exb_model.specs.Tree.{Shape, IsTree, HangsOn, device, on, is_extender, trunk, top}
use Rattle.exb_model.specs.Setup.{Limits}
use Rattle.exb_model.proofs.TreeLoops.{trunk_is}
use Rattle.exb_model.proofs.TreeTrunks.{trunk-low}
use Rattle.exb_model.proofs.TreeWays.{top_high, top_low, top_none}
use Rattle.exb_frame.specs.TagValues.{TagRoundTrip}
use Rattle.exb_lldp.specs.declared.announce.Announce.{Announce}
use Rattle.exb_lldp.specs.declared.announce.LldpFault.{LldpFault}
use Rattle.exb_lldp.specs.Announcements.{announced as announcement_in}
use Rattle.exb_ecp.specs.declared.pdu.Pdu.{Pdu}
use Rattle.exb_ecp.specs.declared.pdu.EcpFault.{EcpFault}
use Rattle.exb_ecp.specs.Frames.{pdu_in}
use Rattle.exb_ecp.specs.StopAndWait.{Sending as Sends, State as Ecp, is_fresh, is_last, acknowledged, unless_sequence}
use Rattle.exb_ecp.specs.StopAndWait.{heard as received}
use Rattle.exb_csp.specs.declared.fault.CspFault.{CspFault}
use Rattle.exb_csp.specs.declared.message.Body.{Body}
use Rattle.exb_csp.specs.declared.message.Body.TheVariants as body
use Rattle.exb_csp.specs.declared.message.Message.{Message}
use Rattle.exb_csp.specs.declared.message.Request.{Request}
use Rattle.exb_csp.specs.declared.message.Response.{Response}
use Rattle.exb_csp.specs.RequestKinds.{kind_of, same_kind}
use Rattle.exb_csp.specs.Decoding.{read_message}
use Rattle.exb_csp.specs.declared.session.asker.Taken.{Taken}
use Rattle.exb_csp.specs.declared.session.asker.Taken.TheVariants as taken
use Rattle.exb_csp.specs.Sessions.AskingEnd.{AskerState, took, took_body, took_answer}
use Rattle.exb_control_spec.specs.PlannedExchanges.{planned}
use Rattle.exb_control_spec.specs.Decisions.{decide}
use Rattle.exb_control_spec.specs.Machine.{State, Moved, still, answered}
use Rattle.exb_world_spec.specs.Worlds.{World, with_near}
use Rattle.exb_world_spec.specs.BridgeLearning.{announced}
use Rattle.exb_world_spec.specs.ExtenderSteps.{hung_on}
use Rattle.exb_world_spec.specs.ControlFrames.{to_extender, moves, stops, hears_message, hears_fresh, hears_request, hears_pdu, hears_frame, hears, bridge_acknowledgement}
use Rattle.exb_world_spec.specs.Settling.{planned_in}
use Rattle.exb_world_spec.proofs.Trunks.{hangs_there, above_there, hung_found}
use Rattle.exb_world_spec.proofs.LinkFrames.{at_here, at_other}
use Rattle.exb_world_spec.proofs.Frames.{bare_spelled}
use Rattle.exb_settling_laws.specs.StopAndWait.{Message as Note, Request as Asks, Answer as Answers, Ack, Hello, Sending, End, is_got, unless_acked, kept_if}
use Rattle.exb_settling_laws.specs.SessionPair.{Near, near_hears, near_gets, near_takes}
use Rattle.exb_settling_laws.specs.Streams.{body_note, message_note, pdu_note, frame_note, note_of, sending_of, end_of, serial_of, near_at, downs_of}
use Rattle.exb_settling_laws.specs.SettlingFacts.{MayComeUp, IsOfKind, IsReached}
use Rattle.exb_settling_laws.proofs.ControlFrameDecoding.{note_acknowledgement, control_spelled, control_tagged}
use Rattle.exb_settling_laws.proofs.BridgeStreams.{IsPut, IsSendable, to_extender_put, to_reached_put, put_own, put_other}
use Rattle.exb_settling_laws.proofs.ControlTurns.{Calm, announced_turns, answered_turns, cases_taken, moves_control, to_extender_ends}
use Rattle.exb_control_spec.proofs.Runs.ExchangeCounts.{answers_count}

-- ---- the extender on the bridge above another
module _ (t : Shape) (tree : IsTree t) where
  top_of : (d k : ℕ) → is_extender t k ≡ true → top t.on d (on t k) < 64 → (m : ℕ) × HangsOn t m (top t.on d (on t k))
  top_of zero k there low = (k, (let P : ℕ → Type 0 = HangsOn t k in subst P (sym (top_none t (on t k))) (hangs_there t k there)))
  top_of (suc d) k there low =
      elim (cases_lt (on t k) 64) [
        | inl l ↦ (k, (let P : ℕ → Type 0 = HangsOn t k in subst P (sym (top_low t (suc d) (on t k) l)) (hangs_there t k there)))
        | inr g ↦
            let e : top t.on (suc d) (on t k) ≡ top t.on d (on t (device (on t k))) = top_high t d (on t k) g in
            let r = top_of d (device (on t k)) (above_there t tree k there g) (let P : ℕ → Type 0 = λ z. z < 64 in subst P e low) in
            (r.0, (let P : ℕ → Type 0 = HangsOn t r.0 in subst P (sym e) r.1))
      ]

  pub top_found : (n : ℕ) → is_extender t n ≡ true → (m : ℕ) × (hung_on t (trunk t n) ≡ Some m)
  top_found n there =
      let low : top t.on 63 (on t n) < 64 = (let P : ℕ → Type 0 = λ z. z < 64 in subst P (trunk_is t n) (trunk-low t tree n there)) in
      let r = top_of 63 n there low in
      (r.0, hung_found t tree r.0 (trunk t n) (let P : ℕ → Type 0 = HangsOn t r.0 in subst P (sym (trunk_is t n)) r.1))

-- ---- the bridge's end hears a note
sending_kept : (b : Bool) (x : Sends) → sending_of (cond b None (Some x)) ≡ kept_if b (record { sequence = x.sequence; serial = serial_of (read_message x.payload); beats = x.beats })
sending_kept true x = refl
sending_kept false x = refl

pub sending_acknowledged : (s : ℕ) (o : Option Sends) → sending_of (unless_sequence s o) ≡ unless_acked s (sending_of o)
sending_acknowledged s None = refl
sending_acknowledged s (Some x) = sending_kept (x.sequence == s) x

pub got_is : (s : ℕ) (o : Option ℕ) → is_last o s ≡ is_got o s
got_is s None = refl
got_is s (Some r) = refl

module _ (t : Shape) (l : Limits) (tree : IsTree t) (round : TagRoundTrip) where
  -- what becomes of the world
  abbrev pub fresh_world : ℕ → Bool → ℕ → World → World
  fresh_world n true s w = with_near n (received s (w.near n)) w
  fresh_world n false s w = w

  abbrev pub request_world : ℕ → ℕ → World → World
  request_world n s w = fresh_world n (is_fresh s ((to_extender t n (bridge_acknowledgement s) w).world.near n)) s (to_extender t n (bridge_acknowledgement s) w).world

  abbrev pub Quiet : World → World → World → Type 0
  Quiet w v u = (v ≡ u) ⊎ (planned_in t l v < planned_in t l w)

  moves_quiet : (m : Moved) (w v : World) → v.control ≡ w.control → (m ≡ still w.control) ⊎ (planned t (decide t l) m.state < planned t (decide t l) w.control) → Quiet w (moves t m v).world v
  moves_quiet m w v e (inl same) =
      let P : Moved → Type 0 = λ x. (moves t x v).world ≡ v in
      let Q : State → Type 0 = λ s. (moves t (still s) v).world ≡ v in
      inl (subst P (sym same) (subst Q e refl))
  moves_quiet m w v e (inr less) = let k : planned_in t l (moves t m v).world ≡ planned t (decide t l) m.state = ap (planned t (decide t l)) (moves_control t l tree m v) in inr (omega arith)

  -- an answer is taken where it is the one that is waited for
  took_it : (a : AskerState) (request : Request) (serial : ℕ) (response : Response) → a.waiting ≡ Some request → serial ≡ a.serial → same_kind response.to (kind_of request) ≡ true →
      (took a (record { serial = serial; body = body.Answer response })).1 ≡ taken.Answer response
  took_it a request serial response e f k =
      let P : Option Request → Type 0 = λ o. (took_body a o serial (body.Answer response)).1 ≡ taken.Answer response in
      let Q : ℕ → Type 0 = λ s. (took_answer a request s response).1 ≡ taken.Answer response in
      let none : nat_lt a.serial a.serial ≡ false = not_less a.serial in
      subst P (sym e) (subst Q (sym f) (rw (none, k) refl))
    where
      not_less : (n : ℕ) → nat_lt n n ≡ false
      not_less n = elim (cases_Bool (nat_lt n n)) [ inl e ↦ absurd (let k = ltb-true n n e in omega arith) | inr e ↦ e ]

  -- a message in a world that has this one's control
  message_quiet : (n : ℕ) (m : Message) (w v : World) → v.control ≡ w.control → Calm t w → Quiet w (hears_message t l n (Ok m) v).world v
  message_quiet n m w v e c =
      let A : State → Type 0 = λ s. Quiet w (moves t (answered (decide t l) n m s) (stops (took (s.askers n) m).1 n v)).world v in
      subst A (sym e) (by_taken (cases_taken t l tree (took (w.control.askers n) m).1))
    where
      stray_stops : (u : Taken) → ((response : Response) → u ≢ taken.Answer response) → stops u n v ≡ v
      stray_stops (taken.Answer response) other = absurd (other response refl)
      stray_stops taken.Stale other = refl
      stray_stops taken.NotOurs other = refl

      by_taken : ((response : Response) × ((took (w.control.askers n) m).1 ≡ taken.Answer response)) ⊎ ((response : Response) → (took (w.control.askers n) m).1 ≢ taken.Answer response) →
          Quiet w (moves t (answered (decide t l) n m w.control) (stops (took (w.control.askers n) m).1 n v)).world v
      by_taken (inl y) =
          let k = answers_count t (decide t l) w.control n m y.0 c.waits y.1 in
          let z : planned_in t l (moves t (answered (decide t l) n m w.control) (stops (took (w.control.askers n) m).1 n v)).world ≡ planned t (decide t l) (answered (decide t l) n m w.control).state =
          ap (planned t (decide t l)) (moves_control t l tree (answered (decide t l) n m w.control) (stops (took (w.control.askers n) m).1 n v)) in
          inr (omega arith)
      by_taken (inr other) =
          let same : stops (took (w.control.askers n) m).1 n v ≡ v = stray_stops (took (w.control.askers n) m).1 other in
          let P : World → Type 0 = λ u. Quiet w (moves t (answered (decide t l) n m w.control) u).world v in
          subst P (sym same) (moves_quiet (answered (decide t l) n m w.control) w v e (answered_turns t l tree w n m c))

  fresh_quiet : (n : ℕ) (b : Bool) (s : ℕ) (payload : List ℕ) (w v : World) → v.control ≡ w.control → Calm t w → Quiet w (hears_fresh t l n b s payload v).world (fresh_world n b s v)
  fresh_quiet n false s payload w v e c = inl refl
  fresh_quiet n true s payload w v e c = by_read (read_message payload)
    where
      by_read : (r : Result Message CspFault) → Quiet w (hears_message t l n r (with_near n (received s (v.near n)) v)).world (with_near n (received s (v.near n)) v)
      by_read (Ok m) = message_quiet n m w (with_near n (received s (v.near n)) v) e c
      by_read (Err fault) = inl refl

  request_quiet : (n s : ℕ) (payload : List ℕ) (w : World) → Calm t w → Quiet w (hears_request t l n s payload w).world (request_world n s w)
  request_quiet n s payload w c =
      fresh_quiet n (is_fresh s ((to_extender t n (bridge_acknowledgement s) w).world.near n)) s payload w (to_extender t n (bridge_acknowledgement s) w).world ((to_extender_ends t n (bridge_acknowledgement s) w).control) c

  abbrev pub pdu_world : ℕ → Result Pdu EcpFault → World → World
  pdu_world n (Err fault) w = w
  pdu_world n (Ok pdu) w = cond (pdu.subtype == 2) (cond pdu.acknowledgement (with_near n (acknowledged pdu.sequence (w.near n)) w) (request_world n pdu.sequence w)) w

  abbrev pub frame_world : ℕ → Result Announce LldpFault → List ℕ → World → World
  frame_world n (Ok a) f w = w
  frame_world n (Err fault) f w = pdu_world n (pdu_in f) w

  quiet_if : (b : Bool) (x y : Rattle.exb_world_spec.specs.Effects.Effect) (u v w : World) → Quiet w x.world u → Quiet w y.world v → Quiet w (cond b x y).world (cond b u v)
  quiet_if true x y u v w h k = h
  quiet_if false x y u v w h k = k

  pdu_quiet : (n : ℕ) (r : Result Pdu EcpFault) (f : List ℕ) (w : World) → Calm t w → Quiet w (hears_pdu t l n r f w).world (pdu_world n r w)
  pdu_quiet n (Err fault) f w c = inl refl
  pdu_quiet n (Ok pdu) f w c =
      quiet_if (pdu.subtype == 2) _ _ _ _ w (quiet_if pdu.acknowledgement _ _ _ _ w (inl refl) (request_quiet n pdu.sequence (drop 18 f) w c)) (inl refl)

  pub hears_quiet : (n : ℕ) (f : List ℕ) (w : World) → Calm t w → is_extender t n ≡ true → Quiet w (hears t l n f w).world (frame_world n (announcement_in f) f w)
  unfolding hears
  hears_quiet n f w c there = by_frame (announcement_in f)
    where
      by_frame : (r : Result Announce LldpFault) → Quiet w (hears_frame t l n r f w).world (frame_world n r f w)
      by_frame (Ok a) = moves_quiet (announced (decide t l) t n a w.control) w w refl (announced_turns t l tree w n a c there)
      by_frame (Err fault) = pdu_quiet n (pdu_in f) f w c

  -- ---- acknowledgements of the bridge
  pub ack_sendable : (s : ℕ) → IsSendable t tree round (bridge_acknowledgement s)
  ack_sendable s = record { bare = bare_spelled 2 69 66 0 0 0 true s []; control = control_spelled 2 69 66 0 0 0 true s []; tagged_control = λ tag. control_tagged 2 69 66 0 0 0 true s [] tag }

  -- the acknowledgement is the last word of the stream
  acked_own : (n s : ℕ) (w : World) → is_extender t n ≡ true → IsReached t w n → downs_of t w.control.held (to_extender t n (bridge_acknowledgement s) w).world.down n 64 n ≡ downs_of t w.control.held w.down n 64 n ++ Ack s ∷ []
  acked_own n s w there reached =
      let top = top_found t tree n there in
      let put : IsPut t tree round w.control.held n (bridge_acknowledgement s) w (to_extender t n (bridge_acknowledgement s) w).world = to_reached_put t tree round n (bridge_acknowledgement s) w there (ack_sendable s) reached top.0 (inl top.1) in
      put_own t tree round w.control.held n (bridge_acknowledgement s) w (to_extender t n (bridge_acknowledgement s) w).world put there
      ∙ ap (λ (o : Option Note). downs_of t w.control.held w.down n 64 n ++ Rattle.exb_settling_laws.specs.Streams.notes_if true o) (note_acknowledgement 2 69 66 0 0 0 s)

  -- no other stream has it
  acked_other : (n s j : ℕ) (w : World) → is_extender t n ≡ true → n ≢ j → is_extender t j ≡ true → downs_of t w.control.held (to_extender t n (bridge_acknowledgement s) w).world.down j 64 j ≡ downs_of t w.control.held w.down j 64 j
  acked_other n s j w there other j_there =
      ⊎_elim
      (λ (e : (to_extender t n (bridge_acknowledgement s) w).world ≡ w). ap (λ (v : World). downs_of t w.control.held v.down j 64 j) e)
      (λ (p : IsPut t tree round w.control.held n (bridge_acknowledgement s) w (to_extender t n (bridge_acknowledgement s) w).world). put_other t tree round w.control.held n (bridge_acknowledgement s) w (to_extender t n (bridge_acknowledgement s) w).world p j other j_there)
      (to_extender_put t tree round n (bridge_acknowledgement s) w there (ack_sendable s))

  -- ---- the own session
  -- near's parts, one by one
  near_is : (a c : End) (w1 w2 : Bool) (s1 s2 b1 b2 : ℕ) (m1 m2 : List Note) → a ≡ c → w1 ≡ w2 → s1 ≡ s2 → b1 ≡ b2 → m1 ≡ m2 →
      ◌≡◌ {A = Near} (record { link = a; waits = w1; serial = s1; beats = b1; sent = m1 }) (record { link = c; waits = w2; serial = s2; beats = b2; sent = m2 })
  near_is a c w1 w2 s1 s2 b1 b2 m1 m2 e f g h k = cc

  end_is : (n1 n2 : ℕ) (s1 s2 : Option Sending) (g1 g2 : Option ℕ) → n1 ≡ n2 → s1 ≡ s2 → g1 ≡ g2 → ◌≡◌ {A = End} (record { next = n1; sending = s1; got = g1 }) (record { next = n2; sending = s2; got = g2 })
  end_is n1 n2 s1 s2 g1 g2 e f g = cc

  module _ (n : ℕ) (w : World) (there : is_extender t n ≡ true) (reached : IsReached t w n) (calm : Calm t w) where
    acked_near : (s : ℕ) → near_at t (to_extender t n (bridge_acknowledgement s) w).world n ≡ record (near_at t w n) { sent = (near_at t w n).sent ++ Ack s ∷ [] }
    acked_near s =
        let e = to_extender_ends t n (bridge_acknowledgement s) w in
        let control : (to_extender t n (bridge_acknowledgement s) w).world.control ≡ w.control = e.control in
        let asker : (to_extender t n (bridge_acknowledgement s) w).world.control.askers n ≡ w.control.askers n = ap (λ (x : State). x.askers n) control in
        near_is _ _ _ _ _ _ _ _ _ _ (ap (λ (x : ℕ → Ecp). end_of (x n)) e.near) (ap (λ (x : AskerState). is_some x.waiting) asker) (ap (λ (x : AskerState). x.serial) asker) (ap (λ (x : AskerState). x.beats) asker)
        (ap (λ (x : State). downs_of t x.held (to_extender t n (bridge_acknowledgement s) w).world.down n 64 n) control ∙ acked_own n s w there reached)

    received_near : (s : ℕ) (v : World) → near_at t (with_near n (received s (v.near n)) v) n ≡ record (near_at t v n) { link = record { next = (near_at t v n).link.next; sending = (near_at t v n).link.sending; got = Some s } }
    received_near s v = ap (λ (x : Ecp). record (near_at t v n) { link = end_of x }) (at_here n (received s (v.near n)) v.near)

    -- what is taken is done of what is planned
    not_taken : (m : Message) (response : Response) (v : World) → v.control ≡ w.control → ((request : Request) (answer : Response) → (w.control.askers n).waiting ≡ Some request → m.serial ≡ (w.control.askers n).serial → m.body ≡ body.Answer answer → same_kind answer.to (kind_of request) ≡ true) → m.body ≡ body.Answer response → (hears_message t l n (Ok m) v).world.control ≡ w.control →
        (is_some (w.control.askers n).waiting && (m.serial == (w.control.askers n).serial)) ≡ false
    not_taken m response v e kind b quiet = by_waiting (w.control.askers n).waiting refl (m.serial == (w.control.askers n).serial) refl
      where
        by_waiting : (o : Option Request) → (w.control.askers n).waiting ≡ o → (b : Bool) → (m.serial == (w.control.askers n).serial) ≡ b → (is_some o && b) ≡ false
        by_waiting None f b g = refl
        by_waiting (Some request) f false g = refl
        by_waiting (Some request) f true g =
            let same : m.serial ≡ (w.control.askers n).serial = eqb-true _ _ g in
            let took_is : (took (w.control.askers n) m).1 ≡ taken.Answer response =
            (let P : Body → Type 0 = λ c. (took_body (w.control.askers n) (w.control.askers n).waiting m.serial c).1 ≡ taken.Answer response in
            subst P (sym b) (took_it (w.control.askers n) request m.serial response f same (kind request response f same b))) in
            let k = answers_count t (decide t l) w.control n m response calm.waits took_is in
            let z : planned_in t l (hears_message t l n (Ok m) v).world ≡ planned t (decide t l) (answered (decide t l) n m v.control).state =
            ap (planned t (decide t l)) (moves_control t l tree (answered (decide t l) n m v.control) (stops (took (v.control.askers n) m).1 n v)) in
            let y : planned t (decide t l) (answered (decide t l) n m v.control).state ≡ planned t (decide t l) (answered (decide t l) n m w.control).state = ap (λ (s : State). planned t (decide t l) (answered (decide t l) n m s).state) e in
            let x : planned_in t l (hears_message t l n (Ok m) v).world ≡ planned_in t l w = ap (planned t (decide t l)) quiet in
            absurd (omega arith)

    -- a fresh answer that isn't taken, and one that isn't fresh
    abbrev Kinds : Message → Type 0
    Kinds m = (request : Request) (answer : Response) → (w.control.askers n).waiting ≡ Some request → m.serial ≡ (w.control.askers n).serial → m.body ≡ body.Answer answer → same_kind answer.to (kind_of request) ≡ true

    answer_near : (s : ℕ) (payload : List ℕ) (m : Message) (response : Response) → read_message payload ≡ Ok m → Kinds m → m.body ≡ body.Answer response → (hears_request t l n s payload w).world.control ≡ w.control →
        near_at t (request_world n s w) n ≡ near_hears (near_at t w n) (Answers s m.serial)
    answer_near s payload m response reads kinds b quiet = by_fresh (is_last (w.near n).received s) refl
      where
        v : World
        v = (to_extender t n (bridge_acknowledgement s) w).world

        same_near : (to_extender t n (bridge_acknowledgement s) w).world.near n ≡ w.near n
        same_near = ap (λ (x : ℕ → Ecp). x n) (to_extender_ends t n (bridge_acknowledgement s) w).near

        by_fresh : (c : Bool) → is_last (w.near n).received s ≡ c → near_at t (request_world n s w) n ≡ near_hears (near_at t w n) (Answers s m.serial)
        by_fresh true e =
            let fresh : is_fresh s ((to_extender t n (bridge_acknowledgement s) w).world.near n) ≡ false = ap (is_fresh s) same_near ∙ ap not e in
            let got : is_got (near_at t w n).link.got s ≡ true = sym (got_is s (w.near n).received) ∙ e in
            ap (λ (z : Bool). near_at t (fresh_world n z s (to_extender t n (bridge_acknowledgement s) w).world) n) fresh ∙ acked_near s
            ∙ sym (ap (λ (z : Bool). near_gets z (near_at t w n) s m.serial) got)
        by_fresh false e =
            let fresh : is_fresh s ((to_extender t n (bridge_acknowledgement s) w).world.near n) ≡ true = ap (is_fresh s) same_near ∙ ap not e in
            let got : is_got (near_at t w n).link.got s ≡ false = sym (got_is s (w.near n).received) ∙ e in
            let u : World = with_near n (received s (v.near n)) v in
            let control : (to_extender t n (bridge_acknowledgement s) w).world.control ≡ w.control = (to_extender_ends t n (bridge_acknowledgement s) w).control in
            let still_quiet : (hears_message t l n (Ok m) (with_near n (received s (v.near n)) v)).world.control ≡ w.control =
            (let P : Bool → Type 0 = λ z. (hears_fresh t l n z s payload (to_extender t n (bridge_acknowledgement s) w).world).world.control ≡ w.control in
            let Q : Result Message CspFault → Type 0 = λ r. (hears_message t l n r (with_near n (received s (v.near n)) v)).world.control ≡ w.control in
            subst Q reads (subst P fresh quiet)) in
            let not_it : ((near_at t w n).waits && (m.serial == (near_at t w n).serial)) ≡ false = not_taken m response (with_near n (received s (v.near n)) v) control kinds b still_quiet in
            let with_s : near_at t (with_near n (received s (v.near n)) v) n ≡ record (near_at t w n) { link = record { next = (near_at t w n).link.next; sending = (near_at t w n).link.sending; got = Some s }; sent = (near_at t w n).sent ++ Ack s ∷ [] } =
            received_near s v ∙ ap (λ (x : Near). record x { link = record { next = x.link.next; sending = x.link.sending; got = Some s } }) (acked_near s) in
            ap (λ (z : Bool). near_at t (fresh_world n z s (to_extender t n (bridge_acknowledgement s) w).world) n) fresh ∙ with_s
            ∙ sym (ap (λ (z : Bool). near_gets z (near_at t w n) s m.serial) got ∙ ap (λ (z : Bool). near_takes z (record { link = record { next = (near_at t w n).link.next; sending = (near_at t w n).link.sending; got = Some s }; waits = (near_at t w n).waits; serial = (near_at t w n).serial; beats = (near_at t w n).beats; sent = (near_at t w n).sent ++ Ack s ∷ [] })) not_it)

    same_some : (a b : Note) → Some a ≡ Some b → a ≡ b
    same_some a b e = cc

    none_some : (a : Note) → None ≡ Some a → ⊥
    none_some a e = cc

    message_near : (s : ℕ) (payload : List ℕ) (r : Result Message CspFault) (a : Note) (x : Rattle.exb_extender.specs.Machine.ExtenderState) → read_message payload ≡ r → message_note s r ≡ Some a → MayComeUp x (Some a) → ((m : Message) → r ≡ Ok m → Kinds m) →
        (hears_request t l n s payload w).world.control ≡ w.control → near_at t (request_world n s w) n ≡ near_hears (near_at t w n) a
    message_near s payload (Err fault) a x reads note up kinds quiet = absurd (none_some a note)
    message_near s payload (Ok m) a x reads note up kinds quiet = by_body m.body refl
      where
        by_body : (b : Body) → m.body ≡ b → near_at t (request_world n s w) n ≡ near_hears (near_at t w n) a
        by_body (body.Ask request) e =
            let is : a ≡ Asks s m.serial = sym (same_some (body_note s m.serial m.body) a note) ∙ ap (body_note s m.serial) e in
            absurd (let P : Note → Type 0 = λ z. MayComeUp x (Some z) in subst P is up)
        by_body (body.Answer response) e =
            let is : a ≡ Answers s m.serial = sym (same_some (body_note s m.serial m.body) a note) ∙ ap (body_note s m.serial) e in
            answer_near s payload m response reads (kinds m refl) e quiet ∙ ap (near_hears (near_at t w n)) (sym is)

    acknowledged_near : (s : ℕ) → near_at t (with_near n (acknowledged s (w.near n)) w) n ≡ near_hears (near_at t w n) (Ack s)
    acknowledged_near s =
        ap (λ (x : Ecp). record (near_at t w n) { link = end_of x }) (at_here n (acknowledged s (w.near n)) w.near)
        ∙ ap (λ (o : Option Sending). record (near_at t w n) { link = record { next = (w.near n).next; sending = o; got = (w.near n).received } }) (sending_acknowledged s (w.near n).sending)

    pdu_near : (r : Result Pdu EcpFault) (f : List ℕ) (a : Note) (x : Rattle.exb_extender.specs.Machine.ExtenderState) → pdu_note r f ≡ Some a → MayComeUp x (Some a) →
        ((p : Pdu) (m : Message) → r ≡ Ok p → p.acknowledgement ≡ false → read_message (drop 18 f) ≡ Ok m → Kinds m) →
        (hears_pdu t l n r f w).world.control ≡ w.control → near_at t (pdu_world n r w) n ≡ near_hears (near_at t w n) a
    pdu_near (Err fault) f a x note up kinds quiet = absurd (none_some a note)
    pdu_near (Ok pdu) f a x note up kinds quiet = by_tests (pdu.subtype == 2) pdu.acknowledgement refl note quiet
      where
        by_tests : (b c : Bool) → pdu.acknowledgement ≡ c → cond b (cond c (Some (Ack pdu.sequence)) (message_note pdu.sequence (read_message (drop 18 f)))) None ≡ Some a →
            (cond b (cond c (Rattle.exb_world_spec.specs.Effects.only (with_near n (acknowledged pdu.sequence (w.near n)) w)) (hears_request t l n pdu.sequence (drop 18 f) w)) (Rattle.exb_world_spec.specs.Effects.only w)).world.control ≡ w.control →
            near_at t (cond b (cond c (with_near n (acknowledged pdu.sequence (w.near n)) w) (request_world n pdu.sequence w)) w) n ≡ near_hears (near_at t w n) a
        by_tests false c k e q = absurd (none_some a e)
        by_tests true true k e q = acknowledged_near pdu.sequence ∙ ap (near_hears (near_at t w n)) (same_some (Ack pdu.sequence) a e)
        by_tests true false k e q = message_near pdu.sequence (drop 18 f) (read_message (drop 18 f)) a x refl e up (λ m reads. kinds pdu m refl k reads) q

    frame_near : (r : Result Announce LldpFault) (f : List ℕ) (a : Note) (x : Rattle.exb_extender.specs.Machine.ExtenderState) → frame_note r f ≡ Some a → MayComeUp x (Some a) →
        ((p : Pdu) (m : Message) → pdu_in f ≡ Ok p → p.acknowledgement ≡ false → read_message (drop 18 f) ≡ Ok m → Kinds m) →
        (hears_frame t l n r f w).world.control ≡ w.control → near_at t (frame_world n r f w) n ≡ near_hears (near_at t w n) a
    frame_near (Ok b) f a x note up kinds quiet = ap (near_hears (near_at t w n)) (same_some Hello a note)
    frame_near (Err fault) f a x note up kinds quiet = pdu_near (pdu_in f) f a x note up kinds quiet

    -- The bridge's end hears what the frame reads as.
    pub hears_near : (f : List ℕ) (a : Note) (x : Rattle.exb_extender.specs.Machine.ExtenderState) → note_of f ≡ Some a → MayComeUp x (Some a) → IsOfKind (w.control.askers n) f →
        (hears t l n f w).world.control ≡ w.control → near_at t (frame_world n (announcement_in f) f w) n ≡ near_hears (near_at t w n) a
    unfolding hears note_of
    hears_near f a x note up kind quiet = frame_near (announcement_in f) f a x note up (λ p m d k reads request answer e g b. kind.kind p m request answer d k reads b e g) quiet

  -- ---- any other session
  other_near : (n s j : ℕ) (e : Ecp) (w : World) → j ≢ n → near_at t (with_near n e w) j ≡ near_at t w j
  other_near n s j e w other = ap (λ (x : Ecp). record (near_at t w j) { link = end_of x }) (at_other n j e w.near other)

  acked_other_near : (n s j : ℕ) (w : World) → is_extender t n ≡ true → n ≢ j → is_extender t j ≡ true → near_at t (to_extender t n (bridge_acknowledgement s) w).world j ≡ near_at t w j
  acked_other_near n s j w there other j_there =
      let e = to_extender_ends t n (bridge_acknowledgement s) w in
      let asker : (to_extender t n (bridge_acknowledgement s) w).world.control.askers j ≡ w.control.askers j = ap (λ (x : State). x.askers j) e.control in
      near_is _ _ _ _ _ _ _ _ _ _ (ap (λ (x : ℕ → Ecp). end_of (x j)) e.near) (ap (λ (x : AskerState). is_some x.waiting) asker) (ap (λ (x : AskerState). x.serial) asker) (ap (λ (x : AskerState). x.beats) asker)
      (ap (λ (x : State). downs_of t x.held (to_extender t n (bridge_acknowledgement s) w).world.down j 64 j) e.control ∙ acked_other n s j w there other j_there)

  request_other : (n s j : ℕ) (w : World) → is_extender t n ≡ true → n ≢ j → is_extender t j ≡ true → near_at t (request_world n s w) j ≡ near_at t w j
  request_other n s j w there other j_there = by_fresh (is_fresh s ((to_extender t n (bridge_acknowledgement s) w).world.near n)) ∙ acked_other_near n s j w there other j_there
    where
      by_fresh : (b : Bool) → near_at t (fresh_world n b s (to_extender t n (bridge_acknowledgement s) w).world) j ≡ near_at t (to_extender t n (bridge_acknowledgement s) w).world j
      by_fresh true = other_near n s j (received s ((to_extender t n (bridge_acknowledgement s) w).world.near n)) (to_extender t n (bridge_acknowledgement s) w).world (λ e. other (sym e))
      by_fresh false = refl

  pub hears_other : (n j : ℕ) (f : List ℕ) (w : World) → is_extender t n ≡ true → n ≢ j → is_extender t j ≡ true → near_at t (frame_world n (announcement_in f) f w) j ≡ near_at t w j
  hears_other n j f w there other j_there = by_frame (announcement_in f)
    where
      by_tests : (pdu : Pdu) (b c : Bool) → near_at t (cond b (cond c (with_near n (acknowledged pdu.sequence (w.near n)) w) (request_world n pdu.sequence w)) w) j ≡ near_at t w j
      by_tests pdu false c = refl
      by_tests pdu true true = other_near n pdu.sequence j (acknowledged pdu.sequence (w.near n)) w (λ e. other (sym e))
      by_tests pdu true false = request_other n pdu.sequence j w there other j_there

      by_pdu : (r : Result Pdu EcpFault) → near_at t (pdu_world n r w) j ≡ near_at t w j
      by_pdu (Err fault) = refl
      by_pdu (Ok pdu) = by_tests pdu (pdu.subtype == 2) pdu.acknowledgement

      by_frame : (r : Result Announce LldpFault) → near_at t (frame_world n r f w) j ≡ near_at t w j
      by_frame (Ok a) = refl
      by_frame (Err fault) = by_pdu (pdu_in f)
