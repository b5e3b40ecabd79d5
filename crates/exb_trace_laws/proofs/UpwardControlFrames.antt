-- What goes up by an extender's own doing is a control frame.
use Rattle.std.proofs.Common.{◌≡◌, ℕ, ◌==◌, ◌&&◌, true, false, not, List, [], ◌∷◌, drop, map, Option, Some, None, Ok, Err, refl, inl, inr}
use Rattle.std.specs.Prelude.{Result}
use Rattle.std.proofs.lemmas.Bool.{cases_Bool}
use Rattle.exb_model.specs.ETags.{Tag, tagged}
use Rattle.exb_model.specs.ExtenderForwarding.{emits}
use Rattle.exb_ecp.specs.declared.pdu.Pdu.{Pdu}
use Rattle.exb_ecp.specs.declared.pdu.EcpFault.{EcpFault}
use Rattle.exb_ecp.specs.Frames.{pdu_in}
use Rattle.exb_ecp.specs.StopAndWait.{Sending, is_fresh, heard, beat_of}
use Rattle.exb_ecp.specs.declared.stop_and_wait.Beat.{Beat as Due}
use Rattle.exb_ecp.specs.declared.stop_and_wait.Beat.TheVariants as due
use Rattle.exb_csp.specs.declared.fault.CspFault.{CspFault}
use Rattle.exb_csp.specs.declared.message.Message.{Message}
use Rattle.exb_csp.specs.declared.message.Body.{Body}
use Rattle.exb_csp.specs.declared.message.Body.TheVariants as body
use Rattle.exb_csp.specs.Decoding.{read_message}
use Rattle.exb_csp.specs.Encoding.{message_bytes}
use Rattle.exb_csp.specs.Execution.{ExtenderTables}
use Rattle.exb_lldp.specs.Encoding.{spelling as announcement}
use Rattle.exb_csp.specs.declared.session.answerer.Due.{Due as Turn}
use Rattle.exb_csp.specs.declared.session.answerer.Due.TheVariants.{Execute, Again, Ignore}
use Rattle.exb_csp.specs.Sessions.AnsweringEnd.{AnswererState, arrived, stored_message}
use Rattle.exb_world_spec.proofs.Frames.{bare_is}
use Rattle.exb_world_spec.proofs.Stamps.{tagged_control}
use Rattle.exb_extender.specs.declared.sends.Side.TheVariants as side
use Rattle.exb_extender.specs.Forwarding.{Sent, forwarding_of, sent_at, is_bare_control, emitted}
use Rattle.exb_model.specs.Frames.{is_control_frame, IsBytes}
use Rattle.exb_extender.specs.Machine.{ExtenderState, Arrives, Beats, submits, executes, by_turn, takes_body, takes_message, hears_request, hears_pdu, hears, beats, announces, announcement_frame, next_count, sends_again, react}
use Rattle.exb_world_spec.specs.Runs.Sessions.{Each}
use Rattle.exb_world_spec.proofs.LinkFrames.{each_append, each_range}
use Rattle.exb_trace_laws.proofs.RequestLines.{spelled_is_control}

abbrev pub UpIsControl : Sent → Type 0
UpIsControl s = s.side ≡ side.Up → is_control_frame s.bytes ≡ true

abbrev pub AllControl : List Sent → Type 0
AllControl ss = Each UpIsControl ss

announcement_is_control : (n ports : ℕ) → is_control_frame (announcement_frame n ports) ≡ true
unfolding announcement is_control_frame
announcement_is_control n ports = refl

submitted_up : (o : Option Message) (s : ExtenderState) → AllControl (submits o s).1
submitted_up None s = tt
submitted_up (Some m) s = (λ e. spelled_is_control 2 69 66 1 0 s.number false s.ecp.next (message_bytes m), tt)

turn_up : (x : AnswererState) (turn : Turn) (s : ExtenderState) → AllControl (by_turn x turn s).1
turn_up x (Execute asked) s = submitted_up (stored_message (executes x asked s).session) (executes x asked s)
turn_up x Again s = submitted_up (stored_message s.session) s
turn_up x Ignore s = tt

body_up : (serial : ℕ) (b : Body) (s : ExtenderState) → AllControl (takes_body serial b s).1
body_up serial (body.Ask asked) s = turn_up (arrived s.session serial asked).0 (arrived s.session serial asked).1 s
body_up serial (body.Answer response) s = tt

message_up : (r : Result Message CspFault) (s : ExtenderState) → AllControl (takes_message r s).1
message_up (Ok m) s = body_up m.serial m.body s
message_up (Err fault) s = tt

request_up : (sequence : ℕ) (payload : List ℕ) (s : ExtenderState) → AllControl (hears_request sequence payload s).1
request_up sequence payload s =
    elim (cases_Bool (is_fresh sequence s.ecp)) [
      | inl e ↦ rw e (λ z. spelled_is_control 2 69 66 1 0 s.number true sequence [], message_up (read_message payload) (record s { ecp = heard sequence s.ecp }))
      | inr e ↦ rw e (λ z. spelled_is_control 2 69 66 1 0 s.number true sequence [], tt)
    ]

pdu_up : (r : Result Pdu EcpFault) (f : List ℕ) (s : ExtenderState) → AllControl (hears_pdu r f s).1
pdu_up (Err fault) f s = tt
pdu_up (Ok p) f s =
    elim (cases_Bool (p.subtype == 2)) [
      | inr other ↦ rw other tt
      | inl ours ↦ elim (cases_Bool p.acknowledgement) [
        | inl ack ↦ rw (ours, ack) tt
        | inr ask ↦ rw (ours, ask) (request_up p.sequence (drop 18 f) s)
      ]
    ]

heard_up : (f : List ℕ) (s : ExtenderState) → AllControl (hears f s).1
unfolding hears
heard_up f s = pdu_up (pdu_in f) f s

again_up : (d : Due) (n : ℕ) (o : Option Sending) → AllControl (sends_again d n o)
again_up due.SendAgain n (Some x) = (λ e. spelled_is_control 2 69 66 1 0 n false x.sequence x.payload, tt)
again_up due.SendAgain n None = tt
again_up due.Nothing n o = tt
again_up due.GaveUp n o = tt

announced_up : (count : ℕ) (s : ExtenderState) → AllControl (announces count s)
announced_up count s = elim (cases_Bool (not s.opened && (count == 1))) [ inl e ↦ rw e (λ z. announcement_is_control s.number s.tables.ports, tt) | inr e ↦ rw e tt ]

pub beaten_up : (s : ExtenderState) → AllControl (react Beats s).1
unfolding beats
beaten_up s =
    each_append UpIsControl (announces (next_count s.beats) s) (sends_again (beat_of s.ecp.sending) s.number s.ecp.sending)
    (announced_up (next_count s.beats) s) (again_up (beat_of s.ecp.sending) s.number s.ecp.sending)

-- ---- frames from above
at_up : (q : ℕ) (fs : List (List ℕ)) → AllControl (map (λ bytes. record { side = side.Port q; bytes = bytes }) fs)
at_up q [] = tt
at_up q (f ∷ fs) = (λ e. absurd (port_up e), at_up q fs)
  where
    port_up : side.Port q ≡ side.Up → ⊥
    port_up e = cc

down_up : (x : ExtenderTables) (f : List ℕ) → AllControl (emitted x side.Up f)
unfolding emitted
down_up x f = each_range UpIsControl (sent_at x f) 1 x.ports (λ q low high. at_up q (emits (forwarding_of x) q f))

pub above_up : (f : List ℕ) (x : ExtenderState) → AllControl (react (Arrives side.Up f) x).1
above_up f x = elim (cases_Bool (is_bare_control f)) [ inl e ↦ rw e (heard_up f x) | inr e ↦ rw e (down_up x.tables f) ]

-- ---- control frames with an E-TAG
pub bare_tagged : (f : List ℕ) (tag : Tag) → IsBytes f → is_bare_control f ≡ true → is_control_frame (tagged f tag) ≡ true
bare_tagged f tag bytes h = tagged_control f tag (bare_is f h).control
