-- What holds of an extender at power-on is kept by each reaction.
use Rattle.std.proofs.Common.{◌≡◌, ◌≢◌, ◌⊎◌, ℕ, ◌+◌, ◌*◌, ◌<◌, ◌≤◌, ◌==◌, ◌&&◌, Bool, true, false, cond, nat_lt, nat_le, List, [], length, drop, refl, sym, subst, arith, inl, inr}
use Rattle.std.specs.Prelude.{Option, Some, None, Result, Ok, Err}
use Rattle.std.proofs.lemmas.Bool.{and_parts, ltb-true, leb-true, cases_eq, cases_Bool, eq-eqb, ne_eqb}
use Rattle.exb_ecp.specs.declared.pdu.Pdu.{Pdu}
use Rattle.exb_ecp.specs.declared.pdu.EcpFault.{EcpFault}
use Rattle.exb_ecp.specs.declared.pdu.EcpFault.TheVariants.{NotEcp, Cut, Version, Operation}
use Rattle.exb_ecp.specs.Calls.{Submit, Acked, Received, Beat}
use Rattle.exb_ecp.specs.Frames.{is_ecp, version, operation, header_in, pdu_in}
use Rattle.exb_ecp.specs.StopAndWait.{State, heard, acknowledged, is_fresh, IsSound}
use Rattle.exb_ecp.proofs.Soundness.{keeps_sound}
use Rattle.exb_csp.specs.declared.fault.CspFault.{CspFault}
use Rattle.exb_csp.specs.declared.message.Body.{Body}
use Rattle.exb_csp.specs.declared.message.Body.TheVariants.{Ask, Answer}
use Rattle.exb_csp.specs.declared.message.Message.{Message}
use Rattle.exb_csp.specs.declared.message.Request.{Request}
use Rattle.exb_csp.specs.declared.message.Request.TheVariants.{Open, PortCreate, PortDelete, Register, Unregister, RegisterMany, UnregisterMany}
use Rattle.exb_model.specs.Frames.{IsBytes}
use Rattle.exb_csp.specs.Encoding.{message_bytes}
use Rattle.exb_csp.specs.Decoding.{read_message}
use Rattle.exb_csp.specs.Execution.{ExtenderTables, create_code, code_of, done, executed}
use Rattle.exb_csp.specs.PortMasks.{powered_on}
use Rattle.exb_csp.specs.declared.session.answerer.Due.{Due as Turn}
use Rattle.exb_csp.specs.declared.session.answerer.Due.TheVariants.{Execute, Again, Ignore}
use Rattle.exb_csp.specs.Sessions.AnsweringEnd.{arrived, stored_message}
use Rattle.exb_extender.specs.declared.sends.Side.{Side}
use Rattle.exb_extender.specs.declared.sends.Side.TheVariants.{Up, Port}
use Rattle.exb_extender.specs.ControlState.{IsInOrder}
use Rattle.exb_extender.specs.Forwarding.{is_bare_control, emitted}
use Rattle.exb_extender.specs.Laws.{IsInput, StaysExtender}
use Rattle.exb_extender.specs.Machine.{ExtenderState, Input, Arrives, Beats, IsExtender, at_power_on, submits, answers, executes, by_turn, takes_body, takes_message, hears_request, hears_pdu, hears, beats, next_count, comes, react}
use Rattle.exb_extender.proofs.ControlLemmas.{answer_fits, order_stored, stored_is, IsNext, executes_next}
use Rattle.exb_extender.proofs.MachineLemmas.{react_same}

-- ---- tables

record AreTables (t : ExtenderTables) : Type 0 where
  ports : (1 ≤ t.ports) × (t.ports ≤ 64)
  outside : (port : ℕ) → t.ports < port → t.own port ≡ 0
  channels : (port : ℕ) → t.own port < 4095

not_none : (n : ℕ) → 0 < n → n ≢ 0
not_none n some none = omega arith

-- what creating with code 0 shows of its numbers
create_parts : (t : ExtenderTables) (port channel : ℕ) → create_code t port channel ≡ 0 → (port ≤ t.ports) × (channel < 4095)
create_parts t port channel good = parts (cases_Bool (nat_lt 0 port && nat_le port t.ports)) (cases_Bool (nat_lt 0 channel && nat_lt channel 4095))
  where
    parts : ((nat_lt 0 port && nat_le port t.ports) ≡ true) ⊎ ((nat_lt 0 port && nat_le port t.ports) ≡ false)
        → ((nat_lt 0 channel && nat_lt channel 4095) ≡ true) ⊎ ((nat_lt 0 channel && nat_lt channel 4095) ≡ false)
        → (port ≤ t.ports) × (channel < 4095)
    parts (inr out) _ = absurd (not_none 1 (omega arith) (rw out at good))
    parts (inl there) (inr out) = absurd (not_none 2 (omega arith) (rw (there, out) at good))
    parts (inl there) (inl is) =
        (leb-true port t.ports (and_parts (nat_lt 0 port) (nat_le port t.ports) there).1, ltb-true channel 4095 (and_parts (nat_lt 0 channel) (nat_lt channel 4095) is).1)

-- one port's channel is another
changed_own : (own : ℕ → ℕ) (count port channel : ℕ) → port ≤ count → ((q : ℕ) → count < q → own q ≡ 0) → (q : ℕ) → count < q → cond (q == port) channel (own q) ≡ 0
changed_own own count port channel few outside q above = let e : (q == port) ≡ false = ne_eqb q port (λ z. omega arith) in rw e (outside q above)

small_own : (own : ℕ → ℕ) (port channel : ℕ) → channel < 4095 → ((q : ℕ) → own q < 4095) → (q : ℕ) → cond (q == port) channel (own q) < 4095
small_own own port channel small each q = elim (q == port) as (λ b. cond b channel (own q) < 4095) [ true ↦ small | false ↦ each q ]

no_own : (own : ℕ → ℕ) (port q : ℕ) → own q ≡ 0 → ◌≡◌ {A = ℕ} (cond (q == port) 0 (own q)) 0
no_own own port q none = elim (q == port) as (λ b. ◌≡◌ {A = ℕ} (cond b 0 (own q)) 0) [ true ↦ refl | false ↦ none ]

done_tables : (t : ExtenderTables) (asked : Request) → code_of t asked ≡ 0 → AreTables t → AreTables (done t asked)
unfolding code_of done
done_tables t Open good h = h
done_tables t (PortCreate port kind channel) good h =
    let parts = create_parts t port channel good in
    record { ports = h.ports; outside = changed_own t.own t.ports port channel parts.0 h.outside; channels = small_own t.own port channel parts.1 h.channels }
done_tables t (PortDelete port) good h = record {
  ports = h.ports;
  outside = λ q above. no_own t.own port q (h.outside q above);
  channels = small_own t.own port 0 (omega arith) h.channels;
}
done_tables t (Register ecid mask) good h = record { ports = h.ports; outside = h.outside; channels = h.channels }
done_tables t (Unregister ecid) good h = record { ports = h.ports; outside = h.outside; channels = h.channels }
done_tables t (RegisterMany rows) good h = record { ports = h.ports; outside = h.outside; channels = h.channels }
done_tables t (UnregisterMany ecids) good h = record { ports = h.ports; outside = h.outside; channels = h.channels }

executed_tables : (t : ExtenderTables) (asked : Request) → AreTables t → AreTables (executed t asked)
unfolding executed
executed_tables t asked h =
    elim (cases_eq (code_of t asked) 0) [
      | inl good ↦ let e : (code_of t asked == 0) ≡ true = eq-eqb _ _ good in rw e (done_tables t asked good h)
      | inr bad ↦ let e : (code_of t asked == 0) ≡ false = ne_eqb _ _ bad in rw e h
    ]

-- ---- the parts of a state

tables_part : (s : ExtenderState) → IsExtender s → AreTables s.tables
tables_part s h = record { ports = h.ports; outside = h.outside; channels = h.channels }

order_part : (s : ExtenderState) → IsExtender s → IsInOrder s.number s.session s.ecp s.beats
order_part s h = record { numbered = h.numbered; answered = h.answered; spelled = h.spelled; sound = h.ecp; beats = h.beats }

whole : (s : ExtenderState) → AreTables s.tables → IsInOrder s.number s.session s.ecp s.beats → IsExtender s
whole s t c = record {
  numbered = c.numbered;
  ports = t.ports;
  outside = t.outside;
  channels = t.channels;
  answered = c.answered;
  spelled = c.spelled;
  ecp = c.sound;
  beats = c.beats;
}

with_ecp : (s : ExtenderState) (ecp : State) → IsSound ecp → IsExtender s → IsExtender (record s { ecp = ecp })
with_ecp s ecp sound h = record {
  numbered = h.numbered;
  ports = h.ports;
  outside = h.outside;
  channels = h.channels;
  answered = h.answered;
  spelled = h.spelled;
  ecp = sound;
  beats = h.beats;
}

-- ---- requests

submits_keeps : (m : Option Message) (s : ExtenderState) → m ≡ stored_message s.session → IsExtender s → IsExtender (submits m s).0
submits_keeps None s is h = h
submits_keeps (Some m) s is h =
    with_ecp s _ (keeps_sound.keeps (Submit (message_bytes m)) s.ecp (answer_fits m s.session.last s.session.answer is) h.ecp) h

answers_keeps : (s : ExtenderState) → IsExtender s → IsExtender (answers s).0
answers_keeps s h = submits_keeps (stored_message s.session) s refl h

executes_keeps : (s : ExtenderState) (serial : ℕ) (asked given : Request) → IsNext s.session serial asked given → IsExtender s → IsExtender (executes (arrived s.session serial asked).0 given s)
executes_keeps s serial asked given next h =
    whole (executes (arrived s.session serial asked).0 given s) (executed_tables s.tables given (tables_part s h))
    (order_stored s.number s.session s.ecp s.beats serial s.tables given _
    (stored_is s.session (arrived s.session serial asked).0 _ serial asked given s.tables _ next refl refl refl)
    next.some h.ports.0 h.ports.1 (order_part s h))

turn_keeps : (s : ExtenderState) (serial : ℕ) (asked : Request) (turn : Turn) → (arrived s.session serial asked).1 ≡ turn → IsExtender s → IsExtender (by_turn (arrived s.session serial asked).0 turn s).0
turn_keeps s serial asked (Execute given) due h =
    answers_keeps (executes (arrived s.session serial asked).0 given s) (executes_keeps s serial asked given (executes_next s.session serial asked given due) h)
turn_keeps s serial asked Again due h = answers_keeps s h
turn_keeps s serial asked Ignore due h = h

body_keeps : (serial : ℕ) (body : Body) (s : ExtenderState) → IsExtender s → IsExtender (takes_body serial body s).0
body_keeps serial (Ask asked) s h = turn_keeps s serial asked (arrived s.session serial asked).1 refl h
body_keeps serial (Answer response) s h = h

message_keeps : (r : Result Message CspFault) (s : ExtenderState) → IsExtender s → IsExtender (takes_message r s).0
message_keeps (Ok m) s h = body_keeps m.serial m.body s h
message_keeps (Err fault) s h = h

-- ---- frames

request_keeps : (sequence : ℕ) (payload : List ℕ) (s : ExtenderState) → sequence < 65536 → IsExtender s → IsExtender (hears_request sequence payload s).0
request_keeps sequence payload s fits h = by_test (is_fresh sequence s.ecp)
  where
    by_test : (fresh : Bool) → IsExtender (cond fresh (takes_message (read_message payload) (record s { ecp = heard sequence s.ecp })) (s, [])).0
    by_test true = message_keeps (read_message payload) (record s { ecp = heard sequence s.ecp }) (with_ecp s (heard sequence s.ecp) (keeps_sound.keeps (Received sequence) s.ecp fits h.ecp) h)
    by_test false = h

-- the sequence of a header has 16 bits
header_fits : (f : List ℕ) (pdu : Pdu) → IsBytes f → Ok pdu ≡ pdu_in f → pdu.sequence < 65536
header_fits f pdu bytes is =
    elim (cases_Bool (is_ecp f)) [
      | inr out ↦ absurd (no_header NotEcp (rw out at is))
      | inl ecp ↦ elim (cases_Bool (nat_lt (length f) 18)) [
        | inl short ↦ absurd (no_header Cut (rw (ecp, short) at is))
        | inr long ↦ elim (cases_Bool (version f == 1)) [
          | inr other ↦ absurd (no_header Version (rw (ecp, long, other) at is))
          | inl first ↦ elim (cases_Bool (nat_lt 1 (operation f))) [
            | inl unknown ↦ absurd (no_header Operation (rw (ecp, long, first, unknown) at is))
            | inr known ↦ subst (λ (p : Pdu). p.sequence < 65536) (sym (same_header (rw (ecp, long, first, known) at is))) (two_bytes_fit (bytes 16) (bytes 17))
          ]
        ]
      ]
    ]
  where
    no_header : (fault : EcpFault) → Ok pdu ≡ Err fault → ⊥
    no_header fault e = cc

    same_header : ◌≡◌ {A = Result Pdu EcpFault} (Ok pdu) (Ok (header_in f)) → pdu ≡ header_in f
    same_header e = cc

    two_bytes_fit : {a b : ℕ} → a < 256 → b < 256 → a * 256 + b < 65536
    two_bytes_fit low high = omega arith

pdu_keeps : (r : Result Pdu EcpFault) (f : List ℕ) (s : ExtenderState) → IsBytes f → r ≡ pdu_in f → IsExtender s → IsExtender (hears_pdu r f s).0
pdu_keeps (Err fault) f s bytes is h = h
pdu_keeps (Ok pdu) f s bytes is h =
    elim (pdu.subtype == 2) as (λ b. IsExtender (cond b (cond pdu.acknowledgement (record s { ecp = acknowledged pdu.sequence s.ecp }, []) (hears_request pdu.sequence (drop 18 f) s)) (s, [])).0) [
      | true ↦ elim pdu.acknowledgement as (λ b. IsExtender (cond b (record s { ecp = acknowledged pdu.sequence s.ecp }, []) (hears_request pdu.sequence (drop 18 f) s)).0) [
        | true ↦ with_ecp s (acknowledged pdu.sequence s.ecp) (keeps_sound.keeps (Acked pdu.sequence) s.ecp tt h.ecp) h
        | false ↦ request_keeps pdu.sequence (drop 18 f) s (header_fits f pdu bytes is) h
      ]
      | false ↦ h
    ]

hears_keeps : (f : List ℕ) (s : ExtenderState) → IsBytes f → IsExtender s → IsExtender (hears f s).0
unfolding hears
hears_keeps f s bytes h = pdu_keeps (pdu_in f) f s bytes refl h

-- ---- beats

next_few : (n : ℕ) → n < 16 → next_count n < 16
next_few n few =
    elim (cases_eq n 15) [
      | inl last ↦ let e : (n == 15) ≡ true = eq-eqb _ _ last in rw e (omega arith)
      | inr other ↦ let e : (n == 15) ≡ false = ne_eqb _ _ other in rw e (omega arith)
    ]

beats_keep : (s : ExtenderState) → IsExtender s → IsExtender (beats s).0
unfolding beats
beats_keep s h = record {
  numbered = h.numbered;
  ports = h.ports;
  outside = h.outside;
  channels = h.channels;
  answered = h.answered;
  spelled = h.spelled;
  ecp = keeps_sound.keeps Beat s.ecp tt h.ecp;
  beats = next_few s.beats h.beats;
}

-- ---- all

comes_keep : (side : Side) (f : List ℕ) (s : ExtenderState) → IsBytes f → IsExtender s → IsExtender (comes side f s).0
comes_keep Up f s bytes h =
    elim (is_bare_control f) as (λ b. IsExtender (cond b (hears f s) (s, emitted s.tables Up f)).0) [ true ↦ hears_keeps f s bytes h | false ↦ h ]
comes_keep (Port k) f s bytes h = h

react_keeps : (i : Input) (s : ExtenderState) → IsInput i → IsExtender s → IsExtender (react i s).0
react_keeps (Arrives side f) s bytes h = comes_keep side f s bytes h
react_keeps Beats s bytes h = beats_keep s h

begins : (number ports : ℕ) → 1 ≤ number → number ≤ 64 → 1 ≤ ports → ports ≤ 64 → IsExtender (at_power_on number ports)
unfolding powered_on
begins number ports some few least most = record {
  numbered = (some, few);
  ports = (least, most);
  outside = λ port above. refl;
  channels = λ port. omega arith;
  answered = refl;
  spelled = tt;
  ecp = keeps_sound.begins;
  beats = omega arith;
}

pub stays_extender : StaysExtender
stays_extender = record { begins = begins; keeps = react_keeps; device = react_same }
