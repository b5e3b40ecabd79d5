-- What an extender makes of a control frame that hands up a request which was asked: it executes the one that is waited
-- for, or answers again, and sends answers that it stored.
use Rattle.std.proofs.Common.{◌≡◌, ◌⊎◌, ℕ, suc, ◌+◌, ◌<◌, ◌≤◌, ◌==◌, ◌^◌, true, false, List, [], length, drop, Option, Some, None, Ok, Err, refl, ap, sym, ◌∙◌, subst, arith, inl, inr}
use Rattle.std.specs.Prelude.{Result, IfSome}
use Rattle.std.specs.Option.{option_map}
use Rattle.std.proofs.lemmas.Bool.{cases_Bool, cases_eq, eq-eqb, ne_eqb}
use Rattle.exb_ecp.specs.declared.pdu.Pdu.{Pdu}
use Rattle.exb_ecp.specs.declared.pdu.EcpFault.{EcpFault}
use Rattle.exb_ecp.specs.Frames.{pdu_in}
use Rattle.exb_ecp.specs.StopAndWait.{Sending, State as Ecp, submitted, acknowledged, unless_sequence, is_fresh}
use Rattle.exb_ecp.specs.StopAndWait.{heard as received}
use Rattle.exb_csp.specs.declared.fault.CspFault.{CspFault}
use Rattle.exb_csp.specs.declared.message.Body.{Body}
use Rattle.exb_csp.specs.declared.message.Body.TheVariants as body
use Rattle.exb_csp.specs.declared.message.Message.{Message}
use Rattle.exb_csp.specs.declared.message.Request.{Request}
use Rattle.exb_csp.specs.declared.message.Response.{Response}
use Rattle.exb_csp.specs.Execution.{ExtenderTables, response_to, executed}
use Rattle.exb_csp.specs.Decoding.{read_message}
use Rattle.exb_csp.specs.Encoding.{message_bytes, HasSpelling}
use Rattle.exb_csp.specs.Sessions.AskingEnd.{AskerState}
use Rattle.exb_csp.specs.Sessions.AnsweringEnd.{AnswererState, stored_message}
use Rattle.exb_extender.specs.declared.sends.Side.TheVariants as side
use Rattle.exb_extender.specs.Forwarding.{Sent, is_bare_control}
use Rattle.exb_extender.specs.Machine.{ExtenderState, Reaction, address_of, acknowledgement_frame, submits, answers, executes, takes_request, takes_body, takes_message, hears_request, hears_pdu, hears, after_sending}
use Rattle.exb_extender.proofs.ControlLemmas.{answer_fits, response_spelled}
use Rattle.exb_world_spec.specs.Runs.Sessions.{IsAsked, WasAsked, WasAnswered, Reads, Hands, Sends, Each, ArePaired}
use Rattle.exb_world_spec.proofs.Frames.{reads_written, hands_request, hands_acknowledgement, bare_spelled}

-- a frame that is sent up, bare, and hands up what P holds of
pub record SentFits (P : ℕ → Body → Type 0) (x : Sent) : Type 0 where
  pub side : x.side ≡ side.Up
  pub bare : is_bare_control x.bytes ≡ true
  pub hands : Hands x.bytes P

-- ---- what became of the session and the tables
pub record IsSame (s t : ExtenderState) : Type 0 where
  pub session : t.session ≡ s.session
  pub tables : t.tables ≡ s.tables

pub record HasExecuted (a : AskerState) (s t : ExtenderState) : Type 0 where
  pub request : Request
  pub waited : a.waiting ≡ Some request
  pub serial : suc s.session.last ≡ a.serial
  pub session : t.session ≡ record { last = a.serial; answer = Some (response_to s.tables request) }
  pub tables : t.tables ≡ executed s.tables request

pub record HasHeard (a : AskerState) (s : ExtenderState) (r : Reaction) : Type 0 where
  pub turned : IsSame s r.0 ⊎ HasExecuted a s r.0
  pub sends : Sends r.0.ecp (WasAnswered r.0.session)
  pub sent : Each (SentFits (WasAnswered r.0.session)) r.1

-- ---- the end of the transport
none_some : {x : Sending} → None ≡ Some x → ⊥
none_some e = cc

some_same : {x y : Sending} → Some x ≡ Some y → x ≡ y
some_same e = cc

unless_was : (sequence : ℕ) (o : Option Sending) (x : Sending) → unless_sequence sequence o ≡ Some x → o ≡ Some x
unless_was sequence None x e = absurd (none_some e)
unless_was sequence (Some y) x e = elim (cases_Bool (y.sequence == sequence)) [ inl k ↦ absurd (none_some (rw k at e)) | inr k ↦ rw k at e ]

pub sends_acknowledged : (P : ℕ → Body → Type 0) (sequence : ℕ) (e : Ecp) → Sends e P → Sends (acknowledged sequence e) P
sends_acknowledged P sequence e k = record { each = λ x h. k.each x (unless_was sequence e.sending x h) }

pub sends_received : (P : ℕ → Body → Type 0) (sequence : ℕ) (e : Ecp) → Sends e P → Sends (received sequence e) P
sends_received P sequence e k = record { each = k.each }

pub sends_submitted : (P : ℕ → Body → Type 0) (payload : List ℕ) (e : Ecp) → Reads payload P → length payload ≤ 1024 → Sends (submitted payload e) P
sends_submitted P payload e reads short =
    record {
      each = λ x h. (let k : record { sequence = e.next; beats = 0; payload = payload } ≡ x = some_same h in
          let Q : Sending → Type 0 = λ z. Reads z.payload P × (length z.payload ≤ 1024) in subst Q k (reads, short));
    }

pub reads_weaker : (P Q : ℕ → Body → Type 0) (payload : List ℕ) → ((serial : ℕ) (b : Body) → P serial b → Q serial b) → Reads payload P → Reads payload Q
reads_weaker P Q payload f k = record { each = λ m e. f m.serial m.body (k.each m e) }

pub sends_weaker : (P Q : ℕ → Body → Type 0) (e : Ecp) → ((serial : ℕ) (b : Body) → P serial b → Q serial b) → Sends e P → Sends e Q
sends_weaker P Q e f k = record { each = λ x h. (reads_weaker P Q x.payload f (k.each x h).0, (k.each x h).1) }

pub hands_weaker : (P Q : ℕ → Body → Type 0) (f : List ℕ) → ((serial : ℕ) (b : Body) → P serial b → Q serial b) → Hands f P → Hands f Q
hands_weaker P Q f g k = record { each = λ p e ack. reads_weaker P Q (drop 18 f) g (k.each p e ack) }

-- ---- later states
pub answered_later : (x y : AnswererState) → x.last < y.last → (serial : ℕ) (b : Body) → WasAnswered x serial b → WasAnswered y serial b
answered_later x y later serial (body.Ask request) k = tt
answered_later x y later serial (body.Answer response) k = record { early = omega (arith, k.early); same = λ e. absurd (omega (arith, k.early)) }

-- ---- answers
module _ (a : AskerState) (low : a.serial < 2 ^ 64) where
  -- what is stored is sent
  record HasAnswered (s : ExtenderState) (r : Reaction) : Type 0 where
    pub session : r.0.session ≡ s.session
    pub tables : r.0.tables ≡ s.tables
    pub sends : Sends r.0.ecp (WasAnswered s.session)
    pub sent : Each (SentFits (WasAnswered s.session)) r.1

  submits_stored : (s : ExtenderState) (o : Option Response) → s.session.answer ≡ o → s.session.last < 2 ^ 64 →
      IfSome (option_map (λ response. record { serial = s.session.last; body = body.Answer response }) o) HasSpelling → Sends s.ecp (WasAnswered s.session) →
      HasAnswered s (submits (option_map (λ response. record { serial = s.session.last; body = body.Answer response }) o) s)
  submits_stored s None is few spelled sends = record { session = refl; tables = refl; sends = sends; sent = tt }
  submits_stored s (Some response) is few spelled sends =
      let m : Message = record { serial = s.session.last; body = body.Answer response } in
      let P : ℕ → Body → Type 0 = WasAnswered s.session in
      let reads : Reads (message_bytes m) P = reads_written P m spelled (record { serial = few; content = tt }) (record { early = omega arith; same = λ e. is }) in
      record {
        session = refl;
        tables = refl;
        sends = sends_submitted P (message_bytes m) s.ecp reads (answer_fits m s.session.last (Some response) refl);
        sent = (record { side = refl; bare = bare_spelled 2 69 66 1 0 s.number false s.ecp.next (message_bytes m); hands = hands_request P (address_of s.number) s.ecp.next (message_bytes m) refl reads }, tt);
      }

  answers_stored : (s : ExtenderState) → s.session.last < 2 ^ 64 → IfSome (stored_message s.session) HasSpelling → Sends s.ecp (WasAnswered s.session) → HasAnswered s (answers s)
  answers_stored s few spelled sends = submits_stored s s.session.answer refl few spelled sends

  -- ---- a request
  module _ (s : ExtenderState) (spelled : IfSome (stored_message s.session) HasSpelling) (ports : (1 ≤ s.tables.ports) × (s.tables.ports ≤ 64)) (pair : ArePaired a s.session) (sends : Sends s.ecp (WasAnswered s.session)) where
    last_few : s.session.last < 2 ^ 64
    last_few = elim pair [ inl e ↦ omega arith | inr e ↦ omega arith ]

    -- whatever is sent of stored answers, with the state's transport as it stands
    ignores : HasHeard a s (s, [])
    ignores = record { turned = inl (record { session = refl; tables = refl }); sends = sends; sent = tt }

    again : HasHeard a s (answers s)
    again =
        let h = answers_stored s last_few spelled sends in
        let P : AnswererState → Type 0 = λ x. Sends (answers s).0.ecp (WasAnswered x) × Each (SentFits (WasAnswered x)) (answers s).1 in
        let k : P (answers s).0.session = subst P (sym h.session) (h.sends, h.sent) in
        record { turned = inl (record { session = h.session; tables = h.tables }); sends = k.0; sent = k.1 }

    runs : (serial : ℕ) (request : Request) → IsAsked a serial request → serial ≡ suc s.session.last → HasHeard a s (answers (executes (record { last = serial; answer = None }) request s))
    runs serial request asked next =
        elim pair [
          | inl e ↦ absurd (omega (arith, asked.early))
          | inr e ↦
              let t : ExtenderState = executes (record { last = serial; answer = None }) request s in
              let same : request ≡ e.1.0 = asked.same e.1.0 (next ∙ e.0) e.1.1 in
              let kept : Sends s.ecp (WasAnswered t.session) = sends_weaker (WasAnswered s.session) (WasAnswered t.session) s.ecp (answered_later s.session t.session (omega arith)) sends in
              let few : serial < 2 ^ 64 = omega (arith, asked.early) in
              let h : HasAnswered t (answers t) = answers_stored t few (response_spelled s.tables request serial (omega arith) ports.0 ports.1) kept in
              let P : AnswererState → Type 0 = λ x. Sends (answers t).0.ecp (WasAnswered x) × Each (SentFits (WasAnswered x)) (answers t).1 in
              let k : P (answers t).0.session = subst P (sym h.session) (h.sends, h.sent) in
              record {
                turned = inr (record {
                  request = e.1.0;
                  waited = e.1.1;
                  serial = e.0;
                  session = h.session ∙ ap (λ (r : Request). record { last = serial; answer = Some (response_to s.tables r) }) same ∙ ap (λ (n : ℕ). record { last = n; answer = Some (response_to s.tables e.1.0) }) (next ∙ e.0);
                  tables = h.tables ∙ ap (λ (r : Request). executed s.tables r) same;
                });
                sends = k.0;
                sent = k.1;
              }
        ]

    asks : (serial : ℕ) (request : Request) → IsAsked a serial request → HasHeard a s (takes_request serial request s)
    asks serial request asked =
        elim (cases_eq serial 0) [
          | inl none ↦ let z : (serial == 0) ≡ true = eq-eqb _ _ none in rw z ignores
          | inr some ↦ elim (cases_eq serial s.session.last) [
            | inl same ↦
                let z : (serial == 0) ≡ false = ne_eqb _ _ some in
                let e : (serial == s.session.last) ≡ true = eq-eqb _ _ same in
                rw (z, e) again
            | inr other ↦ elim (cases_eq serial (s.session.last + 1)) [
              | inr later ↦
                  let z : (serial == 0) ≡ false = ne_eqb _ _ some in
                  let o : (serial == s.session.last) ≡ false = ne_eqb _ _ other in
                  let e : (serial == s.session.last + 1) ≡ false = ne_eqb _ _ later in
                  rw (z, o, e) ignores
              | inl next ↦
                  let z : (serial == 0) ≡ false = ne_eqb _ _ some in
                  let o : (serial == s.session.last) ≡ false = ne_eqb _ _ other in
                  let e : (serial == s.session.last + 1) ≡ true = eq-eqb _ _ next in
                  rw (z, o, e) (runs serial request asked (omega arith))
            ]
          ]
        ]

    takes : (r : Result Message CspFault) → ((m : Message) → r ≡ Ok m → WasAsked a m.serial m.body) → HasHeard a s (takes_message r s)
    takes (Err fault) fits = ignores
    takes (Ok m) fits = by_body m.serial m.body (fits m refl)
      where
        by_body : (serial : ℕ) (b : Body) → WasAsked a serial b → HasHeard a s (takes_body serial b s)
        by_body serial (body.Ask request) asked = asks serial request asked
        by_body serial (body.Answer response) asked = ignores

  -- ---- a frame
  module _ (s : ExtenderState) (spelled : IfSome (stored_message s.session) HasSpelling) (ports : (1 ≤ s.tables.ports) × (s.tables.ports ≤ 64)) (pair : ArePaired a s.session) (sends : Sends s.ecp (WasAnswered s.session)) where
    acknowledged_first : (sequence : ℕ) (t : ExtenderState) (r : Reaction) → t.session ≡ s.session → t.tables ≡ s.tables → HasHeard a t r → HasHeard a s (after_sending (acknowledgement_frame s.number sequence) r)
    acknowledged_first sequence t r same tables h =
        record {
          turned = elim h.turned [
            | inl k ↦ inl (record { session = k.session ∙ same; tables = k.tables ∙ tables })
            | inr k ↦ inr (record {
              request = k.request;
              waited = k.waited;
              serial = ap (λ (x : AnswererState). suc x.last) (sym same) ∙ k.serial;
              session = k.session ∙ ap (λ (x : ExtenderTables). record { last = a.serial; answer = Some (response_to x k.request) }) tables;
              tables = k.tables ∙ ap (λ (x : ExtenderTables). executed x k.request) tables;
            })
          ];
          sends = h.sends;
          sent = (
            record { side = refl; bare = bare_spelled 2 69 66 1 0 s.number true sequence []; hands = hands_acknowledgement (WasAnswered r.0.session) (address_of s.number) sequence refl },
            h.sent,
          );
        }

    requests : (sequence : ℕ) (payload : List ℕ) → Reads payload (WasAsked a) → HasHeard a s (hears_request sequence payload s)
    requests sequence payload reads =
        elim (cases_Bool (is_fresh sequence s.ecp)) [
          | inl fresh ↦ rw fresh (
              let t : ExtenderState = record s { ecp = received sequence s.ecp } in
              let h : HasHeard a t (takes_message (read_message payload) t) = takes t spelled ports pair (sends_received (WasAnswered s.session) sequence s.ecp sends) (read_message payload) (λ m e. reads.each m e) in
              acknowledged_first sequence t (takes_message (read_message payload) t) refl refl h)
          | inr old ↦ rw old (acknowledged_first sequence s (s, []) refl refl (ignores s spelled ports pair sends))
        ]

    by_pdu : (r : Result Pdu EcpFault) (f : List ℕ) → ((p : Pdu) → r ≡ Ok p → p.acknowledgement ≡ false → Reads (drop 18 f) (WasAsked a)) → HasHeard a s (hears_pdu r f s)
    by_pdu (Err fault) f hands = ignores s spelled ports pair sends
    by_pdu (Ok p) f hands =
        elim (cases_Bool (p.subtype == 2)) [
          | inr other ↦ rw other (ignores s spelled ports pair sends)
          | inl ours ↦ rw ours (
              elim (cases_Bool p.acknowledgement) [
                | inl ack ↦ rw ack (record { turned = inl (record { session = refl; tables = refl }); sends = sends_acknowledged (WasAnswered s.session) p.sequence s.ecp sends; sent = tt })
                | inr request ↦ rw request (requests p.sequence (drop 18 f) (hands p refl request))
              ])
        ]

    pub hears_asked : (f : List ℕ) → Hands f (WasAsked a) → HasHeard a s (hears f s)
    unfolding hears
    hears_asked f hands = by_pdu (pdu_in f) f hands.each
