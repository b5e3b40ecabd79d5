-- What an extender sends of its own reads as an answer, an acknowledgement, or its own announcement.
use Rattle.std.proofs.Common.{◌≡◌, ℕ, ◌+◌, ◌≤◌, ◌==◌, ◌&&◌, not, Bool, true, false, cond, List, [], ◌∷◌, length, drop, Option, Some, None, Ok, Err, refl, ap, sym, ◌∙◌, subst, inl, inr}
use Rattle.std.specs.Prelude.{Result, bytes_eq, slice_index}
use Rattle.std.proofs.lemmas.Bool.{cases_Bool, and_from, eq-eqb, eqb-true}
use Rattle.exb_model.specs.Tree.{Shape}
use Rattle.exb_lldp.specs.declared.announce.Announce.{Announce}
use Rattle.exb_lldp.specs.declared.announce.LldpFault.{LldpFault}
use Rattle.exb_lldp.specs.Announcements.{announced as announcement_in}
use Rattle.exb_lldp.proofs.RoundTrip.{announced-spelling}
use Rattle.exb_lldp.proofs.TlvSteps.{announced_not}
use Rattle.exb_ecp.specs.declared.pdu.Pdu.{Pdu}
use Rattle.exb_ecp.specs.declared.pdu.EcpFault.{EcpFault}
use Rattle.exb_ecp.specs.declared.stop_and_wait.Beat.{Beat as Due}
use Rattle.exb_ecp.specs.declared.stop_and_wait.Beat.TheVariants as due
use Rattle.exb_ecp.specs.Frames.{pdu_in, spelling}
use Rattle.exb_ecp.specs.StopAndWait.{Sending, is_fresh, beat_of}
use Rattle.exb_ecp.specs.StopAndWait.{heard as received}
use Rattle.exb_csp.specs.declared.fault.CspFault.{CspFault}
use Rattle.exb_csp.specs.declared.message.Body.{Body}
use Rattle.exb_csp.specs.declared.message.Body.TheVariants as body
use Rattle.exb_csp.specs.declared.message.Message.{Message}
use Rattle.exb_csp.specs.declared.message.Request.{Request}
use Rattle.exb_csp.specs.declared.message.Response.{Response}
use Rattle.exb_csp.specs.Execution.{response_to}
use Rattle.exb_csp.specs.Decoding.{read_message}
use Rattle.exb_csp.specs.Encoding.{message_bytes}
use Rattle.exb_csp.proofs.RoundTrip.{message_again}
use Rattle.exb_csp.specs.Sessions.AnsweringEnd.{stored_message}
use Rattle.exb_extender.specs.declared.sends.Side.TheVariants as side
use Rattle.exb_extender.specs.Forwarding.{Sent, up, is_bare_control}
use Rattle.exb_extender.specs.Machine.{ExtenderState, nothing, acknowledgement_frame, request_frame, announcement_frame, control_pdu, next_count, announces, sends_again, submits, answers, takes_request, takes_body, takes_message, hears_pdu, hears, beats}
use Rattle.exb_world_spec.specs.BridgeLearning.{is_of, address_of}
use Rattle.exb_world_spec.specs.Runs.Sessions.{Each, CanBeSent}
use Rattle.exb_world_spec.proofs.Frames.{bare_spelled, bare_announcement}
use Rattle.exb_world_spec.proofs.LinkFrames.{each_append}
use Rattle.exb_settling_laws.specs.StopAndWait.{Message as Note, Answer as Answers}
use Rattle.exb_settling_laws.specs.SettlingFacts.{IsAnnouncement}
use Rattle.exb_settling_laws.specs.SessionInvariant.{IsDevice}
use Rattle.exb_settling_laws.specs.RemainingFacts.{IsUpNote, FarLeft}
use Rattle.exb_settling_laws.specs.FramePlaces.{ReadsUp}
use Rattle.exb_settling_laws.specs.Streams.{message_note, frame_note, note_of}
use Rattle.exb_settling_laws.proofs.ControlFrameDecoding.{mac, not_lldp, note_acknowledgement, note_request}
use Rattle.exb_settling_laws.proofs.StopAndWaitSteps.{MayAsk}
use Rattle.exb_settling_laws.proofs.FarRemainingFacts.{MayHear}

-- it goes up as it is, and reads so
pub record Says (t : Shape) (n : ℕ) (x : Sent) : Type 0 where
  pub side_is : x.side ≡ side.Up
  pub bare : is_bare_control x.bytes ≡ true
  pub reads : ReadsUp t n x.bytes

not_err : (a : Announce) (f : LldpFault) (r : Result Announce LldpFault) → r ≡ Err f → r ≡ Ok a → ⊥
not_err a f r e g = cc

same_announce : (r : Result Announce LldpFault) (a b : Announce) → r ≡ Ok a → r ≡ Ok b → a ≡ b
same_announce r a b e f = cc

module _ (t : Shape) (n : ℕ) where
  -- ---- frames of the transport are no announcements
  no_announcement : (number : ℕ) (ack : Bool) (sequence : ℕ) (payload : List ℕ) → IsAnnouncement t n (spelling (mac 2 69 66 1 0 number) (control_pdu ack sequence) payload)
  no_announcement number ack sequence payload =
      record { announces = λ a e. absurd (not_err a _ (announcement_in (spelling (mac 2 69 66 1 0 number) (control_pdu ack sequence) payload)) (announced_not (spelling (mac 2 69 66 1 0 number) (control_pdu ack sequence) payload) (not_lldp 2 69 66 1 0 number ack sequence payload)) e) }

  acknowledges : (number sequence : ℕ) → Says t n (up (acknowledgement_frame number sequence))
  acknowledges number sequence =
      record {
        side_is = refl;
        bare = bare_spelled 2 69 66 1 0 number true sequence [];
        reads = ((let P : Option Note → Type 0 = IsUpNote in subst P (sym (note_acknowledgement 2 69 66 1 0 number sequence)) tt), no_announcement number true sequence []);
      }

  repeats : (number sequence serial : ℕ) (payload : List ℕ) → length payload ≤ 1024 → message_note sequence (read_message payload) ≡ Some (Answers sequence serial) → Says t n (up (request_frame number sequence payload))
  repeats number sequence serial payload short reads =
      record {
        side_is = refl;
        bare = bare_spelled 2 69 66 1 0 number false sequence payload;
        reads = ((let P : Option Note → Type 0 = IsUpNote in subst P (sym (note_request 2 69 66 1 0 number sequence payload short ∙ reads)) tt), no_announcement number false sequence payload);
      }

  -- an answer that can be sent
  answers_so : (number sequence serial : ℕ) (response : Response) → CanBeSent (record { serial = serial; body = body.Answer response }) → Says t n (up (request_frame number sequence (message_bytes (record { serial = serial; body = body.Answer response }))))
  answers_so number sequence serial response can =
      let read : read_message (message_bytes (record { serial = serial; body = body.Answer response })) ≡ Ok (record { serial = serial; body = body.Answer response }) = message_again (record { serial = serial; body = body.Answer response }) can.spelled can.fits in
      repeats number sequence serial (message_bytes (record { serial = serial; body = body.Answer response })) can.short (ap (message_note sequence) read)

  -- ---- a request comes
  says_stored : (s : ExtenderState) → ((response : Response) → s.session.answer ≡ Some response → CanBeSent (record { serial = s.session.last; body = body.Answer response })) → Each (Says t n) (answers s).1
  says_stored s can = by_answer s.session.answer refl
    where
      by_answer : (o : Option Response) → s.session.answer ≡ o → Each (Says t n) (submits (stored_message (record { last = s.session.last; answer = s.session.answer })) s).1
      by_answer None e = (let P : Option Response → Type 0 = λ z. Each (Says t n) (submits (stored_message (record { last = s.session.last; answer = z })) s).1 in subst P (sym e) tt)
      by_answer (Some response) e = (let P : Option Response → Type 0 = λ z. Each (Says t n) (submits (stored_message (record { last = s.session.last; answer = z })) s).1 in subst P (sym e) (answers_so s.number s.ecp.next s.session.last response (can response e), tt))

  says_request : (s : ExtenderState) (serial : ℕ) (request : Request) → MayAsk s serial request → Each (Says t n) (takes_request serial request s).1
  says_request s serial request may =
      elim (cases_Bool (serial == 0)) [
        | inl e ↦ rw e tt
        | inr e ↦ elim (cases_Bool (serial == s.session.last)) [
          | inl f ↦ rw (e, f) (says_stored s may.stored)
          | inr f ↦ elim (cases_Bool (serial == s.session.last + 1)) [
            | inr g ↦ rw (e, f, g) tt
            | inl g ↦ rw (e, f, g) (answers_so s.number s.ecp.next serial (response_to s.tables request) (may.answer (eqb-true serial (s.session.last + 1) g)), tt)
          ]
        ]
      ]

  module _ (s : ExtenderState) (f : List ℕ) (may : MayHear s f) where
    says_message : (p : Pdu) → pdu_in f ≡ Ok p → p.acknowledgement ≡ false → (r : Result Message CspFault) → read_message (drop 18 f) ≡ r → Each (Says t n) (takes_message r (record s { ecp = received p.sequence s.ecp })).1
    says_message p d a (Err fault) e = tt
    says_message p d a (Ok m) e = by_body m.body refl
      where
        by_body : (b : Body) → m.body ≡ b → Each (Says t n) (takes_body m.serial b (record s { ecp = received p.sequence s.ecp })).1
        by_body (body.Answer response) g = tt
        by_body (body.Ask request) g =
            let k : MayAsk s m.serial request = may.asks p m request d a e g in
            says_request (record s { ecp = received p.sequence s.ecp }) m.serial request (record { stored = k.stored; answer = k.answer; first = k.first })

    says_fresh : (p : Pdu) → pdu_in f ≡ Ok p → p.acknowledgement ≡ false → (b : Bool) → Each (Says t n) (cond b (takes_message (read_message (drop 18 f)) (record s { ecp = received p.sequence s.ecp })) (nothing s)).1
    says_fresh p d a true = says_message p d a (read_message (drop 18 f)) refl
    says_fresh p d a false = tt

    says_pdu : (r : Result Pdu EcpFault) → pdu_in f ≡ r → Each (Says t n) (hears_pdu r f s).1
    says_pdu (Err fault) d = tt
    says_pdu (Ok p) d =
        elim (cases_Bool (p.subtype == 2)) [
          | inr e ↦ rw e tt
          | inl e ↦ elim (cases_Bool p.acknowledgement) [
            | inl a ↦ rw (e, a) tt
            | inr a ↦ rw (e, a) (acknowledges s.number p.sequence, says_fresh p d a (is_fresh p.sequence s.ecp))
          ]
        ]

    -- What it sends of its own when a frame comes.
    pub hears_says : Each (Says t n) (hears f s).1
    unfolding hears
    hears_says = says_pdu (pdu_in f) refl

  -- ---- a beat passes
  same_address : bytes_eq (address_of n) (address_of n) ≡ true
  same_address = by_byte (n == n) (eq-eqb n n refl)
    where
      by_byte : (b : Bool) → b ≡ true → (b && true) ≡ true
      by_byte true e = refl
      by_byte false e = absurd (cc)

  hello : (number ports : ℕ) → announcement_in (announcement_frame number ports) ≡ Ok (record { chassis = Rattle.exb_extender.specs.Machine.address_of number; ports = ports }) → IsUpNote (note_of (announcement_frame number ports))
  unfolding note_of
  hello number ports read = (let P : Result Announce LldpFault → Type 0 = λ r. IsUpNote (frame_note r (announcement_frame number ports)) in subst P (sym read) tt)

  announced_by : (s : ExtenderState) → IsDevice t n s → 1 ≤ s.tables.ports → s.tables.ports ≤ 64 → Says t n (up (announcement_frame s.number s.tables.ports))
  announced_by s k some few =
      let read : announcement_in (announcement_frame s.number s.tables.ports) ≡ Ok (record { chassis = Rattle.exb_extender.specs.Machine.address_of s.number; ports = s.tables.ports }) =
      announced-spelling (record { chassis = Rattle.exb_extender.specs.Machine.address_of s.number; ports = s.tables.ports }) refl (record { some = some; few = few }) in
      record {
        side_is = refl;
        bare = bare_announcement s.number s.tables.ports;
        reads = (
          hello s.number s.tables.ports read,
          record {
            announces = λ a e.
                let same = same_announce (announcement_in (announcement_frame s.number s.tables.ports)) (record { chassis = Rattle.exb_extender.specs.Machine.address_of s.number; ports = s.tables.ports }) a read e in
                let P : Announce → Type 0 = λ x. is_of t n x ≡ true in
                subst P same (
                let Q : ℕ → Type 0 = λ i. (bytes_eq (address_of i) (address_of n) && s.tables.ports == slice_index t.ports n) ≡ true in
                subst Q (sym k.number) (and_from (bytes_eq (address_of n) (address_of n)) (s.tables.ports == slice_index t.ports n) same_address (eq-eqb s.tables.ports (slice_index t.ports n) k.ports)));
          },
        );
      }

  says_hello : (s : ExtenderState) → IsDevice t n s → 1 ≤ s.tables.ports → s.tables.ports ≤ 64 → (b : Bool) → Each (Says t n) (cond b (up (announcement_frame s.number s.tables.ports) ∷ []) [])
  says_hello s k some few true = (announced_by s k some few, tt)
  says_hello s k some few false = tt

  says_again : (number : ℕ) (d : Due) (o : Option Sending) → ((x : Sending) → o ≡ Some x → (length x.payload ≤ 1024) × ((serial : ℕ) × (message_note x.sequence (read_message x.payload) ≡ Some (Answers x.sequence serial)))) → Each (Says t n) (sends_again d number o)
  says_again number due.SendAgain (Some x) can = (let k = can x refl in (repeats number x.sequence k.1.0 x.payload k.0 k.1.1, tt))
  says_again number due.SendAgain None can = tt
  says_again number due.Nothing o can = tt
  says_again number due.GaveUp o can = tt

  -- What it sends when a beat passes.
  pub beats_says : (s : ExtenderState) → IsDevice t n s → 1 ≤ s.tables.ports → s.tables.ports ≤ 64 → FarLeft s → ((x : Sending) → s.ecp.sending ≡ Some x → length x.payload ≤ 1024) → Each (Says t n) (beats s).1
  unfolding beats
  beats_says s k some few left short =
      each_append (Says t n) (announces (next_count s.beats) s) (sends_again (beat_of s.ecp.sending) s.number s.ecp.sending)
      (says_hello s k some few (not s.opened && (next_count s.beats == 1)))
      (says_again s.number (beat_of s.ecp.sending) s.ecp.sending (λ x e. (short x e, (s.session.last, (left.sending x e).reads))))
