-- To which sides an extender sends: upstream, or at one of its ports.
use Rattle.std.proofs.Common.{ℕ, ◌<◌, ◌≤◌, ◌==◌, ◌&&◌, not, nat_lt, List, [], ◌∷◌, drop, map, Option, Some, None, Ok, Err, arith, inl, inr}
use Rattle.std.specs.Prelude.{Result}
use Rattle.std.proofs.lemmas.Bool.{cases_Bool}
use Rattle.exb_ecp.specs.declared.pdu.Pdu.{Pdu}
use Rattle.exb_ecp.specs.declared.pdu.EcpFault.{EcpFault}
use Rattle.exb_ecp.specs.Frames.{pdu_in}
use Rattle.exb_ecp.specs.StopAndWait.{Sending, is_fresh, heard, beat_of}
use Rattle.exb_ecp.specs.declared.stop_and_wait.Beat.{Beat as Due}
use Rattle.exb_ecp.specs.declared.stop_and_wait.Beat.TheVariants as due
use Rattle.exb_csp.specs.declared.fault.CspFault.{CspFault}
use Rattle.exb_csp.specs.declared.message.Message.{Message}
use Rattle.exb_csp.specs.declared.message.Body.{Body}
use Rattle.exb_csp.specs.declared.message.Body.TheVariants as body
use Rattle.exb_csp.specs.Decoding.{read_message}
use Rattle.exb_csp.specs.Execution.{ExtenderTables}
use Rattle.exb_csp.specs.declared.session.answerer.Due.{Due as Turn}
use Rattle.exb_csp.specs.declared.session.answerer.Due.TheVariants.{Execute, Again, Ignore}
use Rattle.exb_csp.specs.Sessions.AnsweringEnd.{AnswererState, arrived, stored_message}
use Rattle.exb_model.specs.ETags.{read_etag}
use Rattle.exb_model.specs.ExtenderForwarding.{emits}
use Rattle.exb_extender.specs.declared.sends.Side.{Side}
use Rattle.exb_extender.specs.declared.sends.Side.TheVariants as side
use Rattle.exb_extender.specs.Forwarding.{Sent, forwarding_of, sent_at, sent_down, sent_from_cascade, sent_from_external, names_channel, is_bare_control, is_ignored, emitted}
use Rattle.exb_extender.specs.Machine.{ExtenderState, Input, Arrives, Beats, submits, executes, by_turn, takes_body, takes_message, hears_request, hears_pdu, hears, beats, announces, next_count, sends_again, comes, react}
use Rattle.exb_world_spec.specs.Runs.Sessions.{Each}
use Rattle.exb_world_spec.proofs.LinkFrames.{each_append, each_range}

abbrev pub FitsSide : ℕ → Side → Type 0
FitsSide ports side.Up = Unit {0}
FitsSide ports (side.Port k) = (0 < k) × (k ≤ ports)

abbrev pub AllFit : ℕ → List Sent → Type 0
AllFit ports ss = Each (λ (s : Sent). FitsSide ports s.side) ss

module _ (ports : ℕ) where
  -- ---- control
  submitted_fit : (o : Option Message) (s : ExtenderState) → AllFit ports (submits o s).1
  submitted_fit None s = tt
  submitted_fit (Some m) s = (tt, tt)

  turn_fit : (x : AnswererState) (turn : Turn) (s : ExtenderState) → AllFit ports (by_turn x turn s).1
  turn_fit x (Execute asked) s = submitted_fit (stored_message (executes x asked s).session) (executes x asked s)
  turn_fit x Again s = submitted_fit (stored_message s.session) s
  turn_fit x Ignore s = tt

  body_fit : (serial : ℕ) (b : Body) (s : ExtenderState) → AllFit ports (takes_body serial b s).1
  body_fit serial (body.Ask asked) s = turn_fit (arrived s.session serial asked).0 (arrived s.session serial asked).1 s
  body_fit serial (body.Answer response) s = tt

  message_fit : (r : Result Message CspFault) (s : ExtenderState) → AllFit ports (takes_message r s).1
  message_fit (Ok m) s = body_fit m.serial m.body s
  message_fit (Err fault) s = tt

  request_fit : (sequence : ℕ) (payload : List ℕ) (s : ExtenderState) → AllFit ports (hears_request sequence payload s).1
  request_fit sequence payload s =
      elim (cases_Bool (is_fresh sequence s.ecp)) [
        | inl e ↦ rw e (tt, message_fit (read_message payload) (record s { ecp = heard sequence s.ecp }))
        | inr e ↦ rw e (tt, tt)
      ]

  pdu_fit : (r : Result Pdu EcpFault) (f : List ℕ) (s : ExtenderState) → AllFit ports (hears_pdu r f s).1
  pdu_fit (Err fault) f s = tt
  pdu_fit (Ok p) f s =
      elim (cases_Bool (p.subtype == 2)) [
        | inr other ↦ rw other tt
        | inl ours ↦ elim (cases_Bool p.acknowledgement) [
          | inl ack ↦ rw (ours, ack) tt
          | inr ask ↦ rw (ours, ask) (request_fit p.sequence (drop 18 f) s)
        ]
      ]

  heard_fit : (f : List ℕ) (s : ExtenderState) → AllFit ports (hears f s).1
  unfolding hears
  heard_fit f s = pdu_fit (pdu_in f) f s

  again_fit : (d : Due) (n : ℕ) (o : Option Sending) → AllFit ports (sends_again d n o)
  again_fit due.SendAgain n (Some x) = (tt, tt)
  again_fit due.SendAgain n None = tt
  again_fit due.Nothing n o = tt
  again_fit due.GaveUp n o = tt

  announced_fit : (count : ℕ) (s : ExtenderState) → AllFit ports (announces count s)
  announced_fit count s = elim (cases_Bool (not s.opened && (count == 1))) [ inl e ↦ rw e (tt, tt) | inr e ↦ rw e tt ]

  beaten_fit : (s : ExtenderState) → AllFit ports (beats s).1
  unfolding beats
  beaten_fit s =
      each_append (λ (x : Sent). FitsSide ports x.side) (announces (next_count s.beats) s) (sends_again (beat_of s.ecp.sending) s.number s.ecp.sending)
      (announced_fit (next_count s.beats) s) (again_fit (beat_of s.ecp.sending) s.number s.ecp.sending)

  -- ---- data
  at_fit : (q : ℕ) (fs : List (List ℕ)) → 0 < q → q ≤ ports → AllFit ports (map (λ bytes. record { side = side.Port q; bytes = bytes }) fs)
  at_fit q [] low high = tt
  at_fit q (f ∷ fs) low high = ((low, high), at_fit q fs low high)

  cascade_fit : (channel : ℕ) (f : List ℕ) → AllFit ports (sent_from_cascade channel f)
  cascade_fit channel f =
      elim (cases_Bool (names_channel (read_etag f))) [
        | inl e ↦ rw e (tt, tt)
        | inr e ↦ elim (cases_Bool (is_bare_control f && nat_lt 0 channel)) [ inl c ↦ rw (e, c) (tt, tt) | inr c ↦ rw (e, c) tt ]
      ]

  external_fit : (channel : ℕ) (f : List ℕ) → AllFit ports (sent_from_external channel f)
  external_fit channel f = elim (cases_Bool (is_ignored channel f)) [ inl e ↦ rw e tt | inr e ↦ rw e (tt, tt) ]

down_fit : (x : ExtenderTables) (f : List ℕ) → AllFit x.ports (sent_down x f)
down_fit x f = each_range (λ (s : Sent). FitsSide x.ports s.side) (sent_at x f) 1 x.ports (λ q low high. at_fit x.ports q (emits (forwarding_of x) q f) (omega arith) (omega arith))

emitted_fit : (x : ExtenderTables) (s : Side) (f : List ℕ) → AllFit x.ports (emitted x s f)
unfolding emitted
emitted_fit x side.Up f = down_fit x f
emitted_fit x (side.Port k) f = elim (cases_Bool (x.cascade k)) [ inl e ↦ rw e (cascade_fit x.ports (x.own k) f) | inr e ↦ rw e (external_fit x.ports (x.own k) f) ]

comes_fit : (s : Side) (f : List ℕ) (x : ExtenderState) → AllFit x.tables.ports (comes s f x).1
comes_fit side.Up f x = elim (cases_Bool (is_bare_control f)) [ inl e ↦ rw e (heard_fit x.tables.ports f x) | inr e ↦ rw e (emitted_fit x.tables side.Up f) ]
comes_fit (side.Port k) f x = emitted_fit x.tables (side.Port k) f

-- all that an extender sends goes upstream or to its ports
pub react_fit : (i : Input) (x : ExtenderState) → AllFit x.tables.ports (react i x).1
react_fit (Arrives s f) x = comes_fit s f x
react_fit Beats x = beaten_fit x.tables.ports x
