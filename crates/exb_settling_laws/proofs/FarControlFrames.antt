-- What an extender makes of a control frame of its own: its end of the session hears the note, and sends its notes up.
use Rattle.std.proofs.Common.{◌≡◌, inl, inr, ℕ, ◌+◌, ◌<◌, ◌==◌, ◌&&◌, nat_lt, not, Bool, true, false, cond, List, [], ◌∷◌, ◌++◌, drop, append_assoc, append-nil, Option, Some, None, Ok, Err, refl, ap, sym, ◌∙◌, subst, arith}
use Rattle.std.specs.Prelude.{Result, is_none}
use Rattle.std.proofs.lemmas.Bool.{cases_eq, and_from, eqb-true, eq-eqb, ne_eqb, lt-ltb, ltb-true, false≢true}
use Rattle.exb_ecp.specs.declared.pdu.Pdu.{Pdu}
use Rattle.exb_ecp.specs.declared.pdu.EcpFault.{EcpFault}
use Rattle.exb_ecp.specs.Frames.{pdu_in}
use Rattle.exb_ecp.specs.StopAndWait.{Sending as Sends, is_fresh, is_last, acknowledged}
use Rattle.exb_ecp.specs.StopAndWait.{heard as received}
use Rattle.exb_csp.specs.declared.fault.CspFault.{CspFault}
use Rattle.exb_csp.specs.declared.message.Body.{Body}
use Rattle.exb_csp.specs.declared.message.Body.TheVariants as body
use Rattle.exb_csp.specs.declared.message.Message.{Message}
use Rattle.exb_csp.specs.declared.message.Request.{Request}
use Rattle.exb_csp.specs.declared.message.Response.{Response}
use Rattle.exb_csp.specs.Decoding.{read_message}
use Rattle.exb_csp.specs.Encoding.{message_bytes}
use Rattle.exb_csp.specs.Execution.{response_to}
use Rattle.exb_csp.specs.declared.session.answerer.Due.{Due as Turn}
use Rattle.exb_csp.specs.declared.session.answerer.Due.TheVariants.{Execute, Again, Ignore}
use Rattle.exb_csp.specs.Sessions.AnsweringEnd.{AnswererState, is_owing, arrived, stored_message}
use Rattle.exb_extender.specs.declared.sends.Side.TheVariants as side
use Rattle.exb_extender.specs.Forwarding.{Sent, up, has_etag_type}
use Rattle.exb_extender.specs.Machine.{ExtenderState, Reaction, nothing, acknowledgement_frame, request_frame, submits, answers, executes, by_turn, takes_request, takes_body, takes_message, hears_request, hears_pdu, hears}
use Rattle.exb_model.specs.Frames.{is_control_frame}
use Rattle.exb_settling_laws.specs.StopAndWait.{Message as Note, Request as Asks, Answer as Answers, Ack, Hello, Sending, End, is_got}
use Rattle.exb_settling_laws.specs.SessionPair.{Far, far_hears, far_gets, far_takes, far_again, far_answers}
use Rattle.exb_settling_laws.specs.Streams.{body_note, message_note, pdu_note, frame_note, note_of, end_of, serial_of, notes_if}
use Rattle.exb_settling_laws.specs.SettlingFacts.{IsLatest, MayGoDown}
use Rattle.exb_settling_laws.proofs.ControlFrameDecoding.{note_acknowledgement, note_request, control_spelled}
use Rattle.exb_world_spec.specs.Runs.Sessions.{Each}
use Rattle.exb_lldp.specs.declared.announce.Announce.{Announce}
use Rattle.exb_lldp.specs.declared.announce.LldpFault.{LldpFault}
use Rattle.exb_lldp.specs.Announcements.{announced as announcement_in}
use Rattle.exb_settling_laws.proofs.NearControlFrames.{sending_acknowledged, got_is}

-- an extender's end with these notes on the way up
abbrev pub far_of : ExtenderState → List Note → Far
far_of s ns = record { link = end_of s.ecp; last = s.session.last; count = s.beats; sent = ns }

-- what is sent, as notes
abbrev pub sent_notes : List Sent → List Note
sent_notes [] = []
sent_notes (x ∷ xs) = notes_if true (note_of x.bytes) ++ sent_notes xs

-- what it now sends is its latest answer
abbrev pub Latest : ExtenderState → Type 0
Latest s = (z : Sends) → s.ecp.sending ≡ Some z → IsLatest Answers s.ecp s.session.last z

far_is : (a c : End) (l1 l2 c1 c2 : ℕ) (m1 m2 : List Note) → a ≡ c → l1 ≡ l2 → c1 ≡ c2 → m1 ≡ m2 → ◌≡◌ {A = Far} (record { link = a; last = l1; count = c1; sent = m1 }) (record { link = c; last = l2; count = c2; sent = m2 })
far_is a c l1 l2 c1 c2 m1 m2 e f g h = cc

end_is : (n1 n2 : ℕ) (s1 s2 : Option Sending) (g1 g2 : Option ℕ) → n1 ≡ n2 → s1 ≡ s2 → g1 ≡ g2 → ◌≡◌ {A = End} (record { next = n1; sending = s1; got = g1 }) (record { next = n2; sending = s2; got = g2 })
end_is n1 n2 s1 s2 g1 g2 e f g = cc

sending_is : (q : ℕ) (k1 k2 : ℕ) → k1 ≡ k2 → ◌≡◌ {A = Option Sending} (Some (record { sequence = q; serial = k1; beats = 0 })) (Some (record { sequence = q; serial = k2; beats = 0 }))
sending_is q k1 k2 e = ap (λ (k : ℕ). Some (record { sequence = q; serial = k; beats = 0 })) e

-- ---- an answer
-- a message is submitted: with serial `last` of the state
submits_far : (m : Message) (s : ExtenderState) (ns : List Note) → Latest (submits (Some m) s).0 → far_of (submits (Some m) s).0 (ns ++ sent_notes (submits (Some m) s).1) ≡ far_answers (far_of s ns) s.session.last
submits_far m s ns latest =
    let z : Sends = record { sequence = s.ecp.next; beats = 0; payload = message_bytes m } in
    let k : IsLatest Answers (submits (Some m) s).0.ecp s.session.last (record { sequence = s.ecp.next; beats = 0; payload = message_bytes m }) = latest (record { sequence = s.ecp.next; beats = 0; payload = message_bytes m }) refl in
    let note : note_of (request_frame s.number s.ecp.next (message_bytes m)) ≡ Some (Answers s.ecp.next s.session.last) = note_request 2 69 66 1 0 s.number s.ecp.next (message_bytes m) k.short ∙ k.reads in
    far_is _ _ _ _ _ _ _ _ (end_is _ _ _ _ _ _ refl (sending_is s.ecp.next (serial_of (read_message (message_bytes m))) s.session.last k.serial_is) refl) refl refl (ap (λ (o : Option Note). ns ++ (notes_if true o ++ [])) note)

answers_far : (s : ExtenderState) (response : Response) (ns : List Note) → s.session.answer ≡ Some response → Latest (answers s).0 → far_of (answers s).0 (ns ++ sent_notes (answers s).1) ≡ far_answers (far_of s ns) s.session.last
answers_far s response ns e latest = by_message (stored_message s.session) stored_is latest
  where
    stored_is : stored_message s.session ≡ Some (record { serial = s.session.last; body = body.Answer response })
    stored_is = ap (Rattle.std.specs.Option.option_map (λ (r : Response). record { serial = s.session.last; body = body.Answer r })) e

    by_message : (o : Option Message) → o ≡ Some (record { serial = s.session.last; body = body.Answer response }) → Latest (submits o s).0 → far_of (submits o s).0 (ns ++ sent_notes (submits o s).1) ≡ far_answers (far_of s ns) s.session.last
    by_message None f l = absurd (cc)
    by_message (Some m) f l = submits_far m s ns l

-- ---- a request
some_answer : (o : Option Response) (last : ℕ) → 0 < last → (nat_lt 0 last && is_none o) ≡ false → (response : Response) × (o ≡ Some response)
some_answer (Some response) last l e = (response, refl)
some_answer None last l e = absurd (false≢true (sym e ∙ and_from (nat_lt 0 last) true (lt-ltb 0 last l) refl))

-- with a serial: executed, answered again, or ignored
takes_far : (serial : ℕ) (asked : Request) (s : ExtenderState) (ns : List Note) → is_owing s.session ≡ false → Latest (takes_request serial asked s).0 →
    far_of (takes_request serial asked s).0 (ns ++ sent_notes (takes_request serial asked s).1) ≡ far_takes (serial == s.session.last + 1) (far_of s ns) serial
takes_far serial asked s ns owing latest =
    elim (cases_eq serial 0) [
      | inl zero_is ↦
          let z : (serial == 0) ≡ true = eq-eqb serial 0 zero_is in
          let next : (serial == s.session.last + 1) ≡ false = ne_eqb serial (s.session.last + 1) (λ e. omega arith) in
          let again : ((serial == s.session.last) && nat_lt 0 s.session.last) ≡ false = by_none (serial == s.session.last) refl (nat_lt 0 s.session.last) refl zero_is in
          ignored z next again
      | inr some ↦
          let z : (serial == 0) ≡ false = ne_eqb serial 0 some in
          elim (cases_eq serial s.session.last) [
            | inl same ↦ repeated z same some latest
            | inr other ↦ elim (cases_eq serial (s.session.last + 1)) [
              | inl next ↦ fresh z other next latest
              | inr far_off ↦
                  let here : (serial == s.session.last) ≡ false = ne_eqb serial s.session.last other in
                  let next : (serial == s.session.last + 1) ≡ false = ne_eqb serial (s.session.last + 1) far_off in
                  nothing_comes z here next
            ]
          ]
    ]
  where
    by_none : (b : Bool) → (serial == s.session.last) ≡ b → (c : Bool) → nat_lt 0 s.session.last ≡ c → serial ≡ 0 → (b && c) ≡ false
    by_none false e c f g = refl
    by_none true e false f g = refl
    by_none true e true f g = absurd (let x : serial ≡ s.session.last = eqb-true _ _ e in let y : 0 < s.session.last = ltb-true _ _ f in omega arith)

    R : AnswererState × Turn → Type 0
    R x = far_of (by_turn x.0 x.1 s).0 (ns ++ sent_notes (by_turn x.0 x.1 s).1) ≡ far_takes (serial == s.session.last + 1) (far_of s ns) serial

    ignoring : (serial == s.session.last + 1) ≡ false → ((serial == s.session.last) && nat_lt 0 s.session.last) ≡ false → R (s.session, Ignore)
    ignoring next again =
        far_is _ _ _ _ _ _ _ _ refl refl refl (append-nil ns) ∙ sym (ap (λ (b : Bool). far_takes b (far_of s ns) serial) next ∙ ap (λ (b : Bool). far_again b (far_of s ns) serial) again)

    ignored : (serial == 0) ≡ true → (serial == s.session.last + 1) ≡ false → ((serial == s.session.last) && nat_lt 0 s.session.last) ≡ false → R (arrived s.session serial asked)
    ignored z next again = subst R (sym (ap (λ (b : Bool). cond b (s.session, Ignore) (cond (serial == s.session.last) (s.session, Again) (cond (serial == s.session.last + 1) (record { last = serial; answer = None }, Execute asked) (s.session, Ignore)))) z)) (ignoring next again)

    nothing_comes : (serial == 0) ≡ false → (serial == s.session.last) ≡ false → (serial == s.session.last + 1) ≡ false → R (arrived s.session serial asked)
    nothing_comes z here next =
        let is : arrived s.session serial asked ≡ (s.session, Ignore) = rw (z, here, next) refl in
        subst R (sym is) (ignoring next (ap (λ (b : Bool). b && nat_lt 0 s.session.last) here))

    repeated : (serial == 0) ≡ false → serial ≡ s.session.last → (serial ≡ 0 → ⊥) → Latest (takes_request serial asked s).0 → R (arrived s.session serial asked)
    repeated z same some l =
        let here : (serial == s.session.last) ≡ true = eq-eqb _ _ same in
        let is : arrived s.session serial asked ≡ (s.session, Again) = rw (z, here) refl in
        let low : 0 < s.session.last = omega arith in
        let a = some_answer s.session.answer s.session.last low owing in
        let L : AnswererState × Turn → Type 0 = λ x. Latest (by_turn x.0 x.1 s).0 in
        let next : (serial == s.session.last + 1) ≡ false = ne_eqb serial (s.session.last + 1) (λ e. omega arith) in
        let again : ((serial == s.session.last) && nat_lt 0 s.session.last) ≡ true = and_from (serial == s.session.last) (nat_lt 0 s.session.last) here (lt-ltb 0 s.session.last low) in
        subst R (sym is) (
        answers_far s a.0 ns a.1 (subst L is l) ∙ ap (far_answers (far_of s ns)) (sym same)
        ∙ sym (ap (λ (b : Bool). far_takes b (far_of s ns) serial) next ∙ ap (λ (b : Bool). far_again b (far_of s ns) serial) again))

    fresh : (serial == 0) ≡ false → (serial ≡ s.session.last → ⊥) → serial ≡ s.session.last + 1 → Latest (takes_request serial asked s).0 → R (arrived s.session serial asked)
    fresh z other next_is l =
        let here : (serial == s.session.last) ≡ false = ne_eqb serial s.session.last other in
        let next : (serial == s.session.last + 1) ≡ true = eq-eqb _ _ next_is in
        let x : AnswererState = record { last = serial; answer = None } in
        let is : arrived s.session serial asked ≡ (record { last = serial; answer = None }, Execute asked) = rw (z, here, next) refl in
        let L : AnswererState × Turn → Type 0 = λ y. Latest (by_turn y.0 y.1 s).0 in
        let e : ExtenderState = executes (record { last = serial; answer = None }) asked s in
        subst R (sym is) (
        answers_far (executes (record { last = serial; answer = None }) asked s) (response_to s.tables asked) ns refl (subst L is l)
        ∙ sym (ap (λ (b : Bool). far_takes b (far_of s ns) serial) next))

-- ---- a frame
module _ (s : ExtenderState) (owing : is_owing s.session ≡ false) (ns : List Note) where
  same_some : (a b : Note) → Some a ≡ Some b → a ≡ b
  same_some a b e = cc

  acknowledged_far : (q : ℕ) → far_of (record s { ecp = acknowledged q s.ecp }) (ns ++ []) ≡ far_hears (far_of s ns) (Ack q)
  acknowledged_far q = far_is _ _ _ _ _ _ _ _ (end_is _ _ _ _ _ _ refl (sending_acknowledged q s.ecp.sending) refl) refl refl (append-nil ns)

  request_far : (q : ℕ) (payload : List ℕ) (m : Message) (asked : Request) → read_message payload ≡ Ok m → m.body ≡ body.Ask asked → Latest (hears_request q payload s).0 →
      far_of (hears_request q payload s).0 (ns ++ sent_notes (hears_request q payload s).1) ≡ far_hears (far_of s ns) (Asks q m.serial)
  request_far q payload m asked reads b latest = by_fresh (is_last s.ecp.received q) refl latest
    where
      ack : note_of (acknowledgement_frame s.number q) ≡ Some (Ack q)
      ack = note_acknowledgement 2 69 66 1 0 s.number q

      acked : (r : Reaction) → ns ++ (notes_if true (note_of (acknowledgement_frame s.number q)) ++ sent_notes r.1) ≡ (ns ++ Ack q ∷ []) ++ sent_notes r.1
      acked r = ap (λ (o : Option Note). ns ++ (notes_if true o ++ sent_notes r.1)) ack ∙ sym (append_assoc ns (Ack q ∷ []) (sent_notes r.1))

      heard_state : ExtenderState
      heard_state = record s { ecp = received q s.ecp }

      Z : Bool → Reaction
      Z c = cond (not c) (takes_message (read_message payload) (record s { ecp = received q s.ecp })) (nothing s)

      by_fresh : (c : Bool) → is_last s.ecp.received q ≡ c → Latest (Z (is_last s.ecp.received q)).0 → far_of (Z (is_last s.ecp.received q)).0 (ns ++ (notes_if true (note_of (acknowledgement_frame s.number q)) ++ sent_notes (Z (is_last s.ecp.received q)).1)) ≡ far_hears (far_of s ns) (Asks q m.serial)
      by_fresh true e l =
          let got : is_got s.ecp.received q ≡ true = sym (got_is q s.ecp.received) ∙ e in
          ap (λ (c : Bool). far_of (Z c).0 (ns ++ (notes_if true (note_of (acknowledgement_frame s.number q)) ++ sent_notes (Z c).1))) e
          ∙ far_is _ _ _ _ _ _ _ _ refl refl refl (acked (nothing s) ∙ append-nil (ns ++ Ack q ∷ [])) ∙ sym (ap (λ (c : Bool). far_gets c (far_of s ns) q m.serial) got)
      by_fresh false e l =
          let got : is_got s.ecp.received q ≡ false = sym (got_is q s.ecp.received) ∙ e in
          let r_is : takes_message (read_message payload) (record s { ecp = received q s.ecp }) ≡ takes_request m.serial asked (record s { ecp = received q s.ecp }) =
          ap (λ (r : Result Message CspFault). takes_message r (record s { ecp = received q s.ecp })) reads ∙ ap (λ (c : Body). takes_body m.serial c (record s { ecp = received q s.ecp })) b in
          let L : Reaction → Type 0 = λ r. Latest r.0 in
          let l1 : Latest (takes_request m.serial asked (record s { ecp = received q s.ecp })).0 = subst L r_is (let P : Bool → Type 0 = λ c. Latest (Z c).0 in subst P e l) in
          ap (λ (c : Bool). far_of (Z c).0 (ns ++ (notes_if true (note_of (acknowledgement_frame s.number q)) ++ sent_notes (Z c).1))) e
          ∙ ap (λ (r : Reaction). far_of r.0 (ns ++ (notes_if true (note_of (acknowledgement_frame s.number q)) ++ sent_notes r.1))) r_is
          ∙ far_is _ _ _ _ _ _ _ _ refl refl refl (acked (takes_request m.serial asked (record s { ecp = received q s.ecp })))
          ∙ takes_far m.serial asked (record s { ecp = received q s.ecp }) (ns ++ Ack q ∷ []) owing l1
          ∙ sym (ap (λ (c : Bool). far_gets c (far_of s ns) q m.serial) got)

  none_some : (a : Note) → None ≡ Some a → ⊥
  none_some a e = cc

  message_far : (asker : Rattle.exb_csp.specs.Sessions.AskingEnd.AskerState) (q : ℕ) (payload : List ℕ) (r : Result Message CspFault) (a : Note) → read_message payload ≡ r → message_note q r ≡ Some a → MayGoDown asker (Some a) → Latest (hears_request q payload s).0 →
      far_of (hears_request q payload s).0 (ns ++ sent_notes (hears_request q payload s).1) ≡ far_hears (far_of s ns) a
  message_far asker q payload (Err fault) a reads note down latest = absurd (none_some a note)
  message_far asker q payload (Ok m) a reads note down latest = by_body m.body refl
    where
      by_body : (b : Body) → m.body ≡ b → far_of (hears_request q payload s).0 (ns ++ sent_notes (hears_request q payload s).1) ≡ far_hears (far_of s ns) a
      by_body (body.Ask asked) e =
          let is : a ≡ Asks q m.serial = sym (same_some (body_note q m.serial m.body) a note) ∙ ap (body_note q m.serial) e in
          request_far q payload m asked reads e latest ∙ ap (far_hears (far_of s ns)) (sym is)
      by_body (body.Answer response) e =
          let is : a ≡ Answers q m.serial = sym (same_some (body_note q m.serial m.body) a note) ∙ ap (body_note q m.serial) e in
          absurd (let P : Note → Type 0 = λ z. MayGoDown asker (Some z) in subst P is down)

  pdu_far : (asker : Rattle.exb_csp.specs.Sessions.AskingEnd.AskerState) (r : Result Pdu EcpFault) (f : List ℕ) (a : Note) → pdu_note r f ≡ Some a → MayGoDown asker (Some a) → Latest (hears_pdu r f s).0 →
      far_of (hears_pdu r f s).0 (ns ++ sent_notes (hears_pdu r f s).1) ≡ far_hears (far_of s ns) a
  pdu_far asker (Err fault) f a note down latest = absurd (none_some a note)
  pdu_far asker (Ok pdu) f a note down latest = by_tests (pdu.subtype == 2) pdu.acknowledgement note latest
    where
      Z : Bool → Bool → Reaction
      Z b c = cond b (cond c (nothing (record s { ecp = acknowledged pdu.sequence s.ecp })) (hears_request pdu.sequence (drop 18 f) s)) (nothing s)

      by_tests : (b c : Bool) → cond b (cond c (Some (Ack pdu.sequence)) (message_note pdu.sequence (read_message (drop 18 f)))) None ≡ Some a → Latest (Z b c).0 → far_of (Z b c).0 (ns ++ sent_notes (Z b c).1) ≡ far_hears (far_of s ns) a
      by_tests false c e l = absurd (none_some a e)
      by_tests true true e l = acknowledged_far pdu.sequence ∙ ap (far_hears (far_of s ns)) (same_some (Ack pdu.sequence) a e)
      by_tests true false e l = message_far asker pdu.sequence (drop 18 f) (read_message (drop 18 f)) a refl e down l

  -- The extender's end hears what the frame reads as.
  pub hears_far : (asker : Rattle.exb_csp.specs.Sessions.AskingEnd.AskerState) (f : List ℕ) (a : Note) → note_of f ≡ Some a → MayGoDown asker (Some a) → Latest (hears f s).0 → far_of (hears f s).0 (ns ++ sent_notes (hears f s).1) ≡ far_hears (far_of s ns) a
  unfolding note_of hears
  hears_far asker f a note down latest = by_frame (announcement_in f) note
    where
      by_frame : (r : Result Announce LldpFault) → frame_note r f ≡ Some a → far_of (hears_pdu (pdu_in f) f s).0 (ns ++ sent_notes (hears_pdu (pdu_in f) f s).1) ≡ far_hears (far_of s ns) a
      by_frame (Ok b) e = absurd (let P : Note → Type 0 = λ z. MayGoDown asker (Some z) in subst P (sym (same_some Hello a e)) down)
      by_frame (Err fault) e = pdu_far asker (pdu_in f) f a e down latest

-- ---- what an extender sends of its own goes up, without an E-TAG
pub record OwnSent (x : Sent) : Type 0 where
  pub side_is : x.side ≡ side.Up
  pub control : is_control_frame x.bytes ≡ true
  pub untyped : has_etag_type x.bytes ≡ false

own_request : (number sequence : ℕ) (payload : List ℕ) → OwnSent (up (request_frame number sequence payload))
own_request number sequence payload = record { side_is = refl; control = control_spelled 2 69 66 1 0 number false sequence payload; untyped = refl }

own_acknowledgement : (number sequence : ℕ) → OwnSent (up (acknowledgement_frame number sequence))
own_acknowledgement number sequence = record { side_is = refl; control = control_spelled 2 69 66 1 0 number true sequence []; untyped = refl }

submits_own : (o : Option Message) (s : ExtenderState) → Each OwnSent (submits o s).1
submits_own None s = tt
submits_own (Some m) s = (own_request s.number s.ecp.next (message_bytes m), tt)

by_turn_own : (session : AnswererState) (turn : Turn) (s : ExtenderState) → Each OwnSent (by_turn session turn s).1
by_turn_own session (Execute asked) s = submits_own (stored_message (executes session asked s).session) (executes session asked s)
by_turn_own session Again s = submits_own (stored_message s.session) s
by_turn_own session Ignore s = tt

takes_message_own : (r : Result Message CspFault) (s : ExtenderState) → Each OwnSent (takes_message r s).1
takes_message_own (Ok m) s = by_body m.body
  where
    by_body : (b : Body) → Each OwnSent (takes_body m.serial b s).1
    by_body (body.Ask asked) = by_turn_own (arrived s.session m.serial asked).0 (arrived s.session m.serial asked).1 s
    by_body (body.Answer response) = tt
takes_message_own (Err fault) s = tt

pub hears_own : (f : List ℕ) (s : ExtenderState) → Each OwnSent (hears f s).1
unfolding hears
hears_own f s = by_pdu (pdu_in f)
  where
    by_fresh : (b : Bool) (payload : List ℕ) (q : ℕ) → Each OwnSent (cond b (takes_message (read_message payload) (record s { ecp = received q s.ecp })) (nothing s)).1
    by_fresh true payload q = takes_message_own (read_message payload) (record s { ecp = received q s.ecp })
    by_fresh false payload q = tt

    by_tests : (pdu : Pdu) (b c : Bool) → Each OwnSent (cond b (cond c (nothing (record s { ecp = acknowledged pdu.sequence s.ecp })) (hears_request pdu.sequence (drop 18 f) s)) (nothing s)).1
    by_tests pdu false c = tt
    by_tests pdu true true = tt
    by_tests pdu true false = (own_acknowledgement s.number pdu.sequence, by_fresh (is_fresh pdu.sequence s.ecp) (drop 18 f) pdu.sequence)

    by_pdu : (r : Result Pdu EcpFault) → Each OwnSent (hears_pdu r f s).1
    by_pdu (Err fault) = tt
    by_pdu (Ok pdu) = by_tests pdu (pdu.subtype == 2) pdu.acknowledgement
