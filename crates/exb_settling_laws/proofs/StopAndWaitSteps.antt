-- Each step of one end keeps what is left to be shown of it: a request is asked, or asked again, or answered; an acknowledgement or
-- a request comes; a beat.
use Rattle.std.proofs.Common.{◌≡◌, inl, inr, ℕ, ◌+◌, ◌<◌, ◌==◌, ◌||◌, nat_lt, Bool, true, false, cond, Option, Some, None, Ok, refl, ap, sym, ◌∙◌, subst, arith}
use Rattle.std.proofs.lemmas.Bool.{cases_Bool, cases_eq, eq-eqb, eqb-true, lt-ltb, false≢true}
use Rattle.exb_ecp.specs.StopAndWait.{Sending, State as Ecp, submitted, stopped, acknowledged, unless_sequence, heard, beaten, aged}
use Rattle.exb_csp.specs.declared.message.Body.TheVariants as body
use Rattle.exb_csp.specs.declared.message.Message.{Message}
use Rattle.exb_csp.specs.declared.message.Request.{Request}
use Rattle.exb_csp.specs.declared.message.Response.{Response}
use Rattle.exb_csp.specs.Decoding.{read_message}
use Rattle.exb_csp.specs.Encoding.{message_bytes}
use Rattle.exb_csp.specs.Execution.{response_to}
use Rattle.exb_csp.proofs.RoundTrip.{message_again}
use Rattle.exb_csp.specs.Sessions.AskingEnd.{AskerState}
use Rattle.exb_csp.specs.Sessions.AnsweringEnd.{stored_message}
use Rattle.exb_extender.specs.Machine.{ExtenderState, is_open, submits, answers, executes, takes_request, beats}
use Rattle.exb_world_spec.specs.Runs.Sessions.{CanBeSent}
use Rattle.exb_settling_laws.specs.StopAndWait.{Message as Note, Request as Asks, Answer as Answers}
use Rattle.exb_settling_laws.specs.Streams.{serial_of, message_note, body_note}
use Rattle.exb_settling_laws.specs.RemainingFacts.{IsOfSerial, NearLeft, FarLeft}

none_some : {A : Type 0} (x : A) → None ≡ Some x → ⊥
none_some x e = cc

some_none : {A : Type 0} (x : A) → Some x ≡ None → ⊥
some_none x e = cc

same_some : {A : Type 0} (x y : A) → Some x ≡ Some y → x ≡ y
same_some x y e = cc

-- ---- what is sent
-- a message that was just submitted
sent_now : (make : ℕ → ℕ → Note) (e : Ecp) (m : Message) → CanBeSent m → body_note e.next m.serial m.body ≡ make e.next m.serial →
    (x : Sending) → (submitted (message_bytes m) e).sending ≡ Some x → IsOfSerial make (submitted (message_bytes m) e) m.serial x
sent_now make e m can is x s =
    let read : read_message (message_bytes m) ≡ Ok m = message_again m can.spelled can.fits in
    subst (IsOfSerial make (submitted (message_bytes m) e) m.serial) (same_some (record { sequence = e.next; beats = 0; payload = message_bytes m }) x s) (
    record {
      sequence = refl;
      serial_is = ap serial_of read;
      reads = ap (message_note e.next) read ∙ ap (λ (n : Note). Some n) is;
      beats = omega arith;
    })

-- what is sent after an acknowledgement was sent before
kept_sending : (q : ℕ) (o : Option Sending) (x : Sending) → unless_sequence q o ≡ Some x → o ≡ Some x
kept_sending q None x e = e
kept_sending q (Some y) x e = by_test (y.sequence == q) e
  where
    by_test : (b : Bool) → cond b None (Some y) ≡ Some x → Some y ≡ Some x
    by_test true f = absurd (none_some x f)
    by_test false f = f

none_kept : (q : ℕ) (o : Option Sending) → o ≡ None → unless_sequence q o ≡ None
none_kept q o e = ap (unless_sequence q) e

-- and so is what has aged
pub record IsAged (o : Option Sending) (y : Sending) : Type 0 where
  pub from : Sending
  pub is : o ≡ Some from
  pub older : y ≡ record { sequence = from.sequence; beats = from.beats + 1; payload = from.payload }
  pub kept : (from.beats + 1 == 12) ≡ false

pub was_aged : (o : Option Sending) (y : Sending) → aged o ≡ Some y → IsAged o y
was_aged None y e = absurd (none_some y e)
was_aged (Some x) y e = by_test (x.beats + 1 == 12) refl e
  where
    by_test : (b : Bool) → (x.beats + 1 == 12) ≡ b → cond b None (Some (record { sequence = x.sequence; beats = x.beats + 1; payload = x.payload })) ≡ Some y → IsAged (Some x) y
    by_test true t e = absurd (none_some y e)
    by_test false t e = record { from = x; is = refl; older = sym (same_some (record { sequence = x.sequence; beats = x.beats + 1; payload = x.payload }) y e); kept = t }

not_twelve : (b : ℕ) → b < 12 → (b + 1 == 12) ≡ false → b + 1 < 12
not_twelve b few e = elim (cases_eq (b + 1) 12) [ inl z ↦ absurd (false≢true (sym e ∙ eq-eqb (b + 1) 12 z)) | inr z ↦ omega arith ]

aged_of : (make : ℕ → ℕ → Note) (e : Ecp) (serial : ℕ) → ((x : Sending) → e.sending ≡ Some x → IsOfSerial make e serial x) → (y : Sending) → (beaten e).sending ≡ Some y → IsOfSerial make (beaten e) serial y
aged_of make e serial all y s =
    let a : IsAged e.sending y = was_aged e.sending y s in
    let k : IsOfSerial make e serial a.from = all a.from a.is in
    subst (IsOfSerial make (beaten e) serial) (sym a.older) (record { sequence = k.sequence; serial_is = k.serial_is; reads = k.reads; beats = not_twelve a.from.beats k.beats a.kept })

-- ---- the bridge's end
-- the request of this serial is asked, or asked again
pub near_asked : (e : Ecp) (serial : ℕ) (request : Request) → 0 < serial → CanBeSent (record { serial = serial; body = body.Ask request }) →
    NearLeft (submitted (message_bytes (record { serial = serial; body = body.Ask request })) (stopped e)) (record { serial = serial; waiting = Some request; beats = 0 })
near_asked e serial request some can =
    record {
      before = (e.next, refl);
      sending = sent_now Asks (stopped e) (record { serial = serial; body = body.Ask request }) can refl;
      beats = omega arith;
      even = λ x s. sym (ap (λ (z : Sending). z.beats) (same_some (record { sequence = e.next; beats = 0; payload = message_bytes (record { serial = serial; body = body.Ask request }) }) x s));
      quiet = λ s. absurd (some_none request s);
      asked = λ other s. some;
    }

-- the answer is taken
pub near_answered : (e : Ecp) (a : AskerState) → NearLeft e a → NearLeft (stopped e) (record { serial = a.serial; waiting = None; beats = 0 })
near_answered e a k =
    record {
      before = k.before;
      sending = λ x s. absurd (none_some x s);
      beats = omega arith;
      even = λ x s. absurd (none_some x s);
      quiet = λ s. refl;
      asked = λ request s. absurd (none_some request s);
    }

same_next : (make : ℕ → ℕ → Note) (e v : Ecp) (serial : ℕ) (x : Sending) → v.next ≡ e.next → IsOfSerial make e serial x → IsOfSerial make v serial x
same_next make e v serial x next k = record { sequence = k.sequence ∙ sym next; serial_is = k.serial_is; reads = k.reads; beats = k.beats }

pub near_acknowledged : (q : ℕ) (e : Ecp) (a : AskerState) → NearLeft e a → NearLeft (acknowledged q e) a
near_acknowledged q e a k =
    record {
      before = k.before;
      sending = λ x s. same_next Asks e (acknowledged q e) a.serial x refl (k.sending x (kept_sending q e.sending x s));
      beats = k.beats;
      even = λ x s. k.even x (kept_sending q e.sending x s);
      quiet = λ s. none_kept q e.sending (k.quiet s);
      asked = k.asked;
    }

pub near_received : (q : ℕ) (e : Ecp) (a : AskerState) → NearLeft e a → NearLeft (heard q e) a
near_received q e a k =
    record { before = k.before; sending = λ x s. same_next Asks e (heard q e) a.serial x refl (k.sending x s); beats = k.beats; even = k.even; quiet = k.quiet; asked = k.asked }

-- a beat of an end whose asker doesn't wait
pub near_idles : (e : Ecp) (a : AskerState) → a.waiting ≡ None → NearLeft e a → NearLeft (beaten e) a
near_idles e a idle k =
    let none : (beaten e).sending ≡ None = ap aged (k.quiet idle) in
    record {
      before = k.before;
      sending = aged_of Asks e a.serial k.sending;
      beats = k.beats;
      even = λ x s. absurd (none_some x (sym none ∙ s));
      quiet = λ s. none;
      asked = k.asked;
    }

-- and of one whose asker counts it
pub near_counts : (e : Ecp) (a : AskerState) → (a.beats == 15) ≡ false → NearLeft e a → NearLeft (beaten e) (record a { beats = a.beats + 1 })
near_counts e a early k =
    record {
      before = k.before;
      sending = aged_of Asks e a.serial k.sending;
      beats = (let few : a.beats < 16 = k.beats in elim (cases_eq a.beats 15) [ inl z ↦ absurd (false≢true (sym early ∙ eq-eqb a.beats 15 z)) | inr z ↦ omega arith ]);
      even = λ y s.
          let g : IsAged e.sending y = was_aged e.sending y s in
          ap (λ (z : Sending). z.beats) g.older ∙ ap (λ (b : ℕ). b + 1) (k.even g.from g.is);
      quiet = λ s. ap aged (k.quiet s);
      asked = k.asked;
    }

-- ---- an extender's end
-- an answer under its last serial is submitted
far_submits : (s : ExtenderState) (response : Response) → CanBeSent (record { serial = s.session.last; body = body.Answer response }) → s.opened ≡ nat_lt 0 s.session.last →
    FarLeft (submits (Some (record { serial = s.session.last; body = body.Answer response })) s).0
far_submits s response can opened =
    record { before = (s.ecp.next, refl); sending = sent_now Answers s.ecp (record { serial = s.session.last; body = body.Answer response }) can refl; opened = opened }

far_answers : (s : ExtenderState) → FarLeft s → ((response : Response) → s.session.answer ≡ Some response → CanBeSent (record { serial = s.session.last; body = body.Answer response })) → FarLeft (answers s).0
far_answers s k can = by_answer s.session.answer refl
  where
    by_answer : (o : Option Response) → s.session.answer ≡ o → FarLeft (submits (stored_message (record { last = s.session.last; answer = s.session.answer })) s).0
    by_answer None e = (let P : Option Response → Type 0 = λ z. FarLeft (submits (stored_message (record { last = s.session.last; answer = z })) s).0 in subst P (sym e) k)
    by_answer (Some response) e =
        (let P : Option Response → Type 0 = λ z. FarLeft (submits (stored_message (record { last = s.session.last; answer = z })) s).0 in subst P (sym e) (far_submits s response (can response e) k.opened))

-- What an extender may be asked: its stored answer can be sent, and of the request that comes next the answer can be, and the first
-- one is Open.
pub record MayAsk (s : ExtenderState) (serial : ℕ) (request : Request) : Type 0 where
  pub stored : (response : Response) → s.session.answer ≡ Some response → CanBeSent (record { serial = s.session.last; body = body.Answer response })
  pub answer : serial ≡ s.session.last + 1 → CanBeSent (record { serial = serial; body = body.Answer (response_to s.tables request) })
  pub first : serial ≡ s.session.last + 1 → s.session.last ≡ 0 → is_open request ≡ true

-- a request comes
pub far_takes : (s : ExtenderState) (serial : ℕ) (request : Request) → MayAsk s serial request → FarLeft s → FarLeft (takes_request serial request s).0
far_takes s serial request may k =
    elim (cases_Bool (serial == 0)) [
      | inl e ↦ rw e k
      | inr e ↦ elim (cases_Bool (serial == s.session.last)) [
        | inl f ↦ rw (e, f) (far_answers s k may.stored)
        | inr f ↦ elim (cases_Bool (serial == s.session.last + 1)) [
          | inr g ↦ rw (e, f, g) k
          | inl g ↦ rw (e, f, g) (far_submits (executes (record { last = serial; answer = None }) request s) (response_to s.tables request) (may.answer (eqb-true serial (s.session.last + 1) g)) (opens (eqb-true serial (s.session.last + 1) g)))
        ]
      ]
    ]
  where
    or_true : (b : Bool) → (b || true) ≡ true
    or_true true = refl
    or_true false = refl

    opens : serial ≡ s.session.last + 1 → (s.opened || is_open request) ≡ nat_lt 0 serial
    opens is =
        elim (cases_eq s.session.last 0) [
          | inl z ↦ ap (λ (b : Bool). s.opened || b) (may.first is z) ∙ or_true s.opened ∙ sym (lt-ltb 0 serial (omega arith))
          | inr z ↦ ap (λ (b : Bool). b || is_open request) (k.opened ∙ lt-ltb 0 s.session.last (omega arith)) ∙ sym (lt-ltb 0 serial (omega arith))
        ]

pub far_acknowledged : (q : ℕ) (s : ExtenderState) → FarLeft s → FarLeft (record s { ecp = acknowledged q s.ecp })
far_acknowledged q s k =
    record { before = k.before; sending = λ x e. same_next Answers s.ecp (acknowledged q s.ecp) s.session.last x refl (k.sending x (kept_sending q s.ecp.sending x e)); opened = k.opened }

pub far_received : (q : ℕ) (s : ExtenderState) → FarLeft s → FarLeft (record s { ecp = heard q s.ecp })
far_received q s k = record { before = k.before; sending = λ x e. same_next Answers s.ecp (heard q s.ecp) s.session.last x refl (k.sending x e); opened = k.opened }

pub far_beats : (s : ExtenderState) → FarLeft s → FarLeft (beats s).0
unfolding beats
far_beats s k = record { before = k.before; sending = aged_of Answers s.ecp s.session.last k.sending; opened = k.opened }
