-- What no reaction of the machine changes.
use Rattle.std.proofs.Common.{◌≡◌, ℕ, ◌==◌, Bool, true, false, cond, List, [], drop, refl, ap, ◌∙◌}
use Rattle.std.specs.Prelude.{Option, Some, None, Result, Ok, Err}
use Rattle.exb_ecp.specs.declared.pdu.Pdu.{Pdu}
use Rattle.exb_ecp.specs.declared.pdu.EcpFault.{EcpFault}
use Rattle.exb_ecp.specs.Frames.{pdu_in}
use Rattle.exb_ecp.specs.StopAndWait.{is_fresh, heard, acknowledged}
use Rattle.exb_csp.specs.declared.fault.CspFault.{CspFault}
use Rattle.exb_csp.specs.declared.message.Body.{Body}
use Rattle.exb_csp.specs.declared.message.Body.TheVariants.{Ask, Answer}
use Rattle.exb_csp.specs.declared.message.Message.{Message}
use Rattle.exb_csp.specs.declared.message.Request.{Request}
use Rattle.exb_csp.specs.declared.message.Request.TheVariants.{Open, PortCreate, PortDelete, Register, Unregister, RegisterMany, UnregisterMany}
use Rattle.exb_csp.specs.Execution.{ExtenderTables, code_of, done, executed}
use Rattle.exb_csp.specs.Decoding.{read_message}
use Rattle.exb_csp.specs.declared.session.answerer.Due.{Due as Turn}
use Rattle.exb_csp.specs.declared.session.answerer.Due.TheVariants.{Execute, Again, Ignore}
use Rattle.exb_csp.specs.Sessions.AnsweringEnd.{AnswererState, arrived, stored_message}
use Rattle.exb_extender.specs.declared.sends.Side.{Side}
use Rattle.exb_extender.specs.declared.sends.Side.TheVariants.{Up, Port}
use Rattle.exb_extender.specs.Forwarding.{is_bare_control, emitted}
use Rattle.exb_extender.specs.Machine.{ExtenderState, Input, Arrives, Beats, IsSameDevice, submits, executes, by_turn, takes_body, takes_message, hears_request, hears_pdu, hears, beats, comes, react}

done_ports : (t : ExtenderTables) (asked : Request) → (done t asked).ports ≡ t.ports
unfolding done
done_ports t Open = refl
done_ports t (PortCreate port cascade channel) = refl
done_ports t (PortDelete port) = refl
done_ports t (Register ecid mask) = refl
done_ports t (Unregister ecid) = refl
done_ports t (RegisterMany rows) = refl
done_ports t (UnregisterMany ecids) = refl

pub executed_ports : (t : ExtenderTables) (asked : Request) → (executed t asked).ports ≡ t.ports
unfolding executed
executed_ports t asked =
    elim (code_of t asked == 0) as (λ b. (cond b (done t asked) t).ports ≡ t.ports) [ true ↦ done_ports t asked | false ↦ refl ]

still : (s : ExtenderState) → IsSameDevice s s
still s = record { number = refl; ports = refl }

and_then : (a b c : ExtenderState) → IsSameDevice a b → IsSameDevice b c → IsSameDevice a c
and_then a b c first second = record { number = second.number ∙ first.number; ports = second.ports ∙ first.ports }

submits_same : (m : Option Message) (s : ExtenderState) → IsSameDevice s (submits m s).0
submits_same None s = still s
submits_same (Some m) s = record { number = refl; ports = refl }

turn_same : (session : AnswererState) (turn : Turn) (s : ExtenderState) → IsSameDevice s (by_turn session turn s).0
turn_same session (Execute asked) s =
    and_then s (executes session asked s) (submits (stored_message (executes session asked s).session) (executes session asked s)).0
    (record { number = refl; ports = executed_ports s.tables asked })
    (submits_same (stored_message (executes session asked s).session) (executes session asked s))
turn_same session Again s = submits_same (stored_message s.session) s
turn_same session Ignore s = still s

body_same : (serial : ℕ) (body : Body) (s : ExtenderState) → IsSameDevice s (takes_body serial body s).0
body_same serial (Ask asked) s = turn_same (arrived s.session serial asked).0 (arrived s.session serial asked).1 s
body_same serial (Answer response) s = still s

message_same : (r : Result Message CspFault) (s : ExtenderState) → IsSameDevice s (takes_message r s).0
message_same (Ok m) s = body_same m.serial m.body s
message_same (Err fault) s = still s

request_same : (sequence : ℕ) (payload : List ℕ) (s : ExtenderState) → IsSameDevice s (hears_request sequence payload s).0
request_same sequence payload s = by_test (is_fresh sequence s.ecp)
  where
    by_test : (fresh : Bool) → IsSameDevice s (cond fresh (takes_message (read_message payload) (record s { ecp = heard sequence s.ecp })) (s, [])).0
    by_test true =
        and_then s (record s { ecp = heard sequence s.ecp }) (takes_message (read_message payload) (record s { ecp = heard sequence s.ecp })).0
        (record { number = refl; ports = refl }) (message_same (read_message payload) (record s { ecp = heard sequence s.ecp }))
    by_test false = still s

pdu_same : (r : Result Pdu EcpFault) (f : List ℕ) (s : ExtenderState) → IsSameDevice s (hears_pdu r f s).0
pdu_same (Err fault) f s = still s
pdu_same (Ok pdu) f s =
    elim (pdu.subtype == 2) as (λ b. IsSameDevice s (cond b (cond pdu.acknowledgement (record s { ecp = acknowledged pdu.sequence s.ecp }, []) (hears_request pdu.sequence (drop 18 f) s)) (s, [])).0) [
      | true ↦ elim pdu.acknowledgement as (λ b. IsSameDevice s (cond b (record s { ecp = acknowledged pdu.sequence s.ecp }, []) (hears_request pdu.sequence (drop 18 f) s)).0) [
        | true ↦ record { number = refl; ports = refl }
        | false ↦ request_same pdu.sequence (drop 18 f) s
      ]
      | false ↦ still s
    ]

hears_same : (f : List ℕ) (s : ExtenderState) → IsSameDevice s (hears f s).0
unfolding hears
hears_same f s = pdu_same (pdu_in f) f s

beats_same : (s : ExtenderState) → IsSameDevice s (beats s).0
unfolding beats
beats_same s = record { number = refl; ports = refl }

pub comes_same : (side : Side) (f : List ℕ) (s : ExtenderState) → IsSameDevice s (comes side f s).0
comes_same Up f s =
    elim (is_bare_control f) as (λ b. IsSameDevice s (cond b (hears f s) (s, emitted s.tables Up f)).0) [ true ↦ hears_same f s | false ↦ still s ]
comes_same (Port k) f s = still s

-- number and ports stay, whatever befalls an extender
pub react_same : (i : Input) (s : ExtenderState) → IsSameDevice s (react i s).0
react_same (Arrives side f) s = comes_same side f s
react_same Beats s = beats_same s

-- a state that is what the machine makes of another
pub reacted_same : (i : Input) (old new : ExtenderState) → new ≡ (react i old).0 → IsSameDevice old new
reacted_same i old new is = record { number = ap (λ (s : ExtenderState). s.number) is ∙ (react_same i old).number; ports = ap (λ (s : ExtenderState). s.tables.ports) is ∙ (react_same i old).ports }
