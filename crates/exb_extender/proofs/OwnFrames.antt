-- An extender's own frames.
use Rattle.std.proofs.Common.{◌≡◌, ℕ, zero, suc, ◌≤◌, ◌==◌, ◌&&◌, Bool, true, false, cond, not, List, [], ◌∷◌, ◌++◌, length, drop, All, Option, Some, None, Result, Ok, Err, refl, sym, ap, subst, arith}
use Rattle.std.specs.Prelude.{nat_le, IfSome}
use Rattle.std.proofs.lemmas.Bool.{le-leb}
use Rattle.exb_model.specs.Frames.{is_control_frame}
use Rattle.exb_lldp.specs.declared.announce.Announce.{Announce}
use Rattle.exb_lldp.specs.Encoding.{spelling as announcement}
use Rattle.exb_lldp.proofs.RoundTrip.{spelling_is}
use Rattle.exb_ecp.specs.declared.pdu.Pdu.{Pdu}
use Rattle.exb_ecp.specs.declared.pdu.EcpFault.{EcpFault}
use Rattle.exb_ecp.specs.declared.stop_and_wait.Beat.{Beat as Due}
use Rattle.exb_ecp.specs.declared.stop_and_wait.Beat.TheVariants as due
use Rattle.exb_ecp.specs.Frames.{pdu_in, spelling, carried}
use Rattle.exb_ecp.specs.StopAndWait.{Sending, acknowledged, heard, IsOutstanding, is_fresh, beat_of}
use Rattle.exb_ecp.proofs.RoundTrip.{length_spelling}
use Rattle.exb_csp.specs.declared.fault.CspFault.{CspFault}
use Rattle.exb_csp.specs.declared.message.Body.{Body}
use Rattle.exb_csp.specs.declared.message.Body.TheVariants.{Ask, Answer}
use Rattle.exb_csp.specs.declared.message.Message.{Message}
use Rattle.exb_csp.specs.Decoding.{read_message}
use Rattle.exb_csp.specs.Encoding.{message_bytes}
use Rattle.exb_csp.specs.declared.session.answerer.Due.{Due as Turn}
use Rattle.exb_csp.specs.declared.session.answerer.Due.TheVariants.{Execute, Again, Ignore}
use Rattle.exb_csp.specs.Sessions.AnsweringEnd.{AnswererState, arrived, stored_message}
use Rattle.exb_extender.specs.Forwarding.{Sent, up, is_bare_control}
use Rattle.exb_extender.specs.Machine.{ExtenderState, Reaction, nothing, address_of, control_pdu, acknowledgement_frame, request_frame, announcement_frame, submits, answers, executes, by_turn, takes_body, takes_message, hears_request, hears_pdu, hears, next_count, announces, sends_again, beats, IsExtender}
use Rattle.exb_extender.specs.Laws.{IsOwnFrame, SendsControl}
use Rattle.exb_extender.proofs.ControlLemmas.{answer_fits}

both : (a b : Bool) → a ≡ true → b ≡ true → (a && b) ≡ true
both true true p q = refl
both true false p q = q
both false b p q = p

framed_control : (number : ℕ) (p : Pdu) (payload : List ℕ) → is_bare_control (spelling (address_of number) p payload) ≡ true
unfolding is_bare_control is_control_frame
framed_control number p payload =
    both (nat_le 14 (length (spelling (address_of number) p payload))) _
    (le-leb 14 (length (spelling (address_of number) p payload)) (omega (arith, length_spelling (address_of number) p payload refl))) refl

-- a frame of ECP
framed_own : (number : ℕ) (p : Pdu) (payload : List ℕ) → length (carried p payload) ≤ 1024 → IsOwnFrame (up (spelling (address_of number) p payload))
framed_own number p payload few = record {
  side = refl;
  control = framed_control number p payload;
  few = omega (arith, length_spelling (address_of number) p payload refl);
}

-- an acknowledgement
acknowledges : (number sequence : ℕ) → IsOwnFrame (up (acknowledgement_frame number sequence))
acknowledges number sequence = framed_own number (control_pdu true sequence) [] (omega arith)

requests : (number sequence : ℕ) (payload : List ℕ) → length payload ≤ 1024 → IsOwnFrame (up (request_frame number sequence payload))
requests number sequence payload few = framed_own number (control_pdu false sequence) payload few

announces_own : (number ports : ℕ) → IsOwnFrame (up (announcement_frame number ports))
unfolding is_bare_control is_control_frame
announces_own number ports =
    let a : Announce = record { chassis = address_of number; ports = ports } in
    let is = spelling_is a refl in
    record {
      side = refl;
      control = ap is_bare_control is;
      few = (let long : length (announcement a) ≡ 41 = ap length is in omega (arith, long));
    }

all_none : All IsOwnFrame []
all_none k d low = absurd (omega arith)

all_more : (x : Sent) (xs : List Sent) → IsOwnFrame x → All IsOwnFrame xs → All IsOwnFrame (x ∷ xs)
all_more x xs is all zero d low = is
all_more x xs is all (suc k) d low = all k d (omega arith)

all_both : (xs ys : List Sent) → All IsOwnFrame xs → All IsOwnFrame ys → All IsOwnFrame (xs ++ ys)
all_both [] ys a b = b
all_both (x ∷ xs) ys a b = all_more x (xs ++ ys) (a 0 x (omega arith)) (all_both xs ys (λ k d low. a (suc k) d (omega arith)) b)

-- ---- what is heard
submits_own : (m : Option Message) (s : ExtenderState) → ((x : Message) → m ≡ Some x → length (message_bytes x) ≤ 1024) → All IsOwnFrame (submits m s).1
submits_own None s few = all_none
submits_own (Some m) s few = all_more _ [] (requests s.number s.ecp.next (message_bytes m) (few m refl)) all_none

answers_own : (s : ExtenderState) → All IsOwnFrame (answers s).1
answers_own s = submits_own (stored_message s.session) s (λ x is. answer_fits x s.session.last s.session.answer (sym is))

turn_own : (session : AnswererState) (turn : Turn) (s : ExtenderState) → All IsOwnFrame (by_turn session turn s).1
turn_own session (Execute asked) s = answers_own (executes session asked s)
turn_own session Again s = answers_own s
turn_own session Ignore s = all_none

body_own : (serial : ℕ) (content : Body) (s : ExtenderState) → All IsOwnFrame (takes_body serial content s).1
body_own serial (Ask asked) s = turn_own (arrived s.session serial asked).0 (arrived s.session serial asked).1 s
body_own serial (Answer response) s = all_none

message_own : (r : Result Message CspFault) (s : ExtenderState) → All IsOwnFrame (takes_message r s).1
message_own (Ok m) s = body_own m.serial m.body s
message_own (Err fault) s = all_none

fresh_own : (fresh : Bool) (r q : Reaction) → All IsOwnFrame r.1 → All IsOwnFrame q.1 → All IsOwnFrame (cond fresh r q).1
fresh_own true r q a b = a
fresh_own false r q a b = b

request_own : (sequence : ℕ) (payload : List ℕ) (s : ExtenderState) → All IsOwnFrame (hears_request sequence payload s).1
request_own sequence payload s =
    let taken : Reaction = takes_message (read_message payload) (record s { ecp = heard sequence s.ecp }) in
    all_more _ (cond (is_fresh sequence s.ecp) taken (nothing s)).1 (acknowledges s.number sequence)
    (fresh_own (is_fresh sequence s.ecp) taken (nothing s) (message_own (read_message payload) (record s { ecp = heard sequence s.ecp })) all_none)

pdu_own : (r : Result Pdu EcpFault) (f : List ℕ) (s : ExtenderState) → All IsOwnFrame (hears_pdu r f s).1
pdu_own (Err fault) f s = all_none
pdu_own (Ok pdu) f s = by_subtype (pdu.subtype == 2) pdu.acknowledgement
  where
    by_subtype : (ours acknowledgement : Bool) → All IsOwnFrame (cond ours (cond acknowledgement (nothing (record s { ecp = acknowledged pdu.sequence s.ecp })) (hears_request pdu.sequence (drop 18 f) s)) (nothing s)).1
    by_subtype true true = all_none
    by_subtype true false = request_own pdu.sequence (drop 18 f) s
    by_subtype false acknowledgement = all_none

hears_own : (f : List ℕ) (s : ExtenderState) → All IsOwnFrame (hears f s).1
unfolding hears
hears_own f s = pdu_own (pdu_in f) f s

-- ---- beats
announces_all : (b : Bool) (number ports : ℕ) → All IsOwnFrame (cond b (up (announcement_frame number ports) ∷ []) [])
announces_all true number ports = all_more _ [] (announces_own number ports) all_none
announces_all false number ports = all_none

again_own : (d : Due) (number : ℕ) (sending : Option Sending) → ((x : Sending) → sending ≡ Some x → length x.payload ≤ 1024) → All IsOwnFrame (sends_again d number sending)
again_own due.SendAgain number (Some x) few = all_more _ [] (requests number x.sequence x.payload (few x refl)) all_none
again_own due.SendAgain number None few = all_none
again_own due.Nothing number sending few = all_none
again_own due.GaveUp number sending few = all_none

sending_few : (next : ℕ) (sending : Option Sending) → IfSome sending (IsOutstanding next) → (x : Sending) → sending ≡ Some x → length x.payload ≤ 1024
sending_few next None sound x is = absurd (cc)
sending_few next (Some y) sound x is = let same : y ≡ x = cc in subst (λ (z : Sending). length z.payload ≤ 1024) same sound.payload

beats_own : (s : ExtenderState) → IsExtender s → All IsOwnFrame (beats s).1
unfolding beats
beats_own s h =
    all_both (announces (next_count s.beats) s) (sends_again (beat_of s.ecp.sending) s.number s.ecp.sending)
    (announces_all (not s.opened && (next_count s.beats == 1)) s.number s.tables.ports)
    (again_own (beat_of s.ecp.sending) s.number s.ecp.sending (sending_few s.ecp.next s.ecp.sending h.ecp.sending))

pub all_control : SendsControl
all_control = record { hears = λ f s h. hears_own f s; beats = beats_own }
