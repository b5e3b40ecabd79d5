-- What an extender answers and sends by itself.
use Rattle.std.proofs.Common.{◌≡◌, ◌≢◌, ◌⊎◌, ℕ, ◌+◌, ◌<◌, ◌≤◌, ◌==◌, ◌&&◌, ◌||◌, not, Bool, true, false, cond, nat_lt, List, [], ◌∷◌, ◌++◌, length, refl, ap, sym, ◌∙◌, subst, arith, inl, inr, length-append}
use Rattle.std.specs.Prelude.{Option, Some, None, Ok, Err, Result, IfSome}
use Rattle.std.specs.Int.{w16, w64, to_be_bytes}
use Rattle.std.proofs.lemmas.Bool.{cases_eq, cases_Bool, eq-eqb, ne_eqb, ltb-false, and_right}
use Rattle.exb_ecp.specs.declared.pdu.Pdu.{Pdu}
use Rattle.exb_ecp.specs.declared.pdu.EcpFault.{EcpFault}
use Rattle.exb_ecp.specs.declared.pdu.EcpFault.TheVariants.{NotEcp, Cut}
use Rattle.exb_ecp.specs.declared.stop_and_wait.Beat.TheVariants.{Nothing, SendAgain, GaveUp}
use Rattle.exb_ecp.specs.Calls.{Submit, Stop, Acked, Received, Beat}
use Rattle.exb_ecp.specs.Frames.{is_ecp, pdu_in}
use Rattle.exb_ecp.specs.StopAndWait.{Sending, State, submitted, stopped, acknowledged, heard, beaten, aged, beat_of, sent_payload, IsOutstanding, IsSound}
use Rattle.exb_ecp.proofs.Soundness.{keeps_sound}
use Rattle.exb_lldp.specs.Encoding.{spelling as announcement}
use Rattle.exb_csp.specs.declared.message.Request.{Request}
use Rattle.exb_csp.specs.declared.message.Request.TheVariants as request
use Rattle.exb_csp.specs.declared.message.RequestKind.{RequestKind}
use Rattle.exb_csp.specs.declared.message.RequestKind.TheVariants as kind
use Rattle.exb_csp.specs.declared.message.Response.{Response}
use Rattle.exb_csp.specs.declared.message.Body.TheVariants.{Answer}
use Rattle.exb_csp.specs.declared.message.Message.{Message}
use Rattle.exb_csp.specs.declared.group_rows.GroupRow.{GroupRow}
use Rattle.exb_csp.specs.RequestKinds.{kind_of}
use Rattle.exb_csp.specs.Encoding.{answer_bytes, message_bytes, IsPortCount, HasSpelling}
use Rattle.exb_csp.specs.Execution.{ExtenderTables, is_ecid, is_port, is_channel, has_pair, has_stray, is_named, row_code, rows_code, clear_code, clears_code, code_of, answered_ports, executed, response_to}
use Rattle.exb_csp.specs.declared.session.answerer.Due.{Due as Turn}
use Rattle.exb_csp.specs.declared.session.answerer.Due.TheVariants.{Execute, Again, Ignore}
use Rattle.exb_csp.specs.Sessions.AnsweringEnd.{AnswererState, arrived, stored, stored_message}
use Rattle.exb_extender.specs.ExtenderParts.{state_with}
use Rattle.exb_extender.specs.ControlState.{ControlState, IsInOrder}
use Rattle.exb_extender.specs.Forwarding.{up}
use Rattle.exb_extender.specs.Machine.{ExtenderState, request_frame, announcement_frame, sends_again, beats, next_count, is_open, executes, answers, by_turn, takes_request, hears_pdu, hears}
use Rattle.exb_extender.specs.SentFrames.{own_sent}

-- ---- own frames

pub own_announcement : (number ports : ℕ) → own_sent (announcement_frame number ports) ≡ up (announcement_frame number ports) ∷ []
unfolding announcement
own_announcement number ports = refl

-- what is sent again
pub again_sent : (number : ℕ) (sending : Option Sending) (sequence : ℕ) (payload : List ℕ) → beat_of sending ≡ SendAgain
    → IfSome (aged sending) (λ x. sequence ≡ x.sequence) → payload ≡ sent_payload (aged sending)
    → own_sent (request_frame number sequence payload) ≡ sends_again (beat_of sending) number sending
again_sent number None sequence payload due is-sequence is-payload = absurd (nothing_due due)
  where
    nothing_due : Nothing ≡ SendAgain → ⊥
    nothing_due e = cc
again_sent number (Some x) sequence payload due is-sequence is-payload = by_test (cases_eq (x.beats + 1) 12)
  where
    gave_up : GaveUp ≡ SendAgain → ⊥
    gave_up e = cc

    by_test : (x.beats + 1 ≡ 12) ⊎ (x.beats + 1 ≢ 12) → own_sent (request_frame number sequence payload) ≡ sends_again (beat_of (Some x)) number (Some x)
    by_test (inl last) = let e : (x.beats + 1 == 12) ≡ true = eq-eqb _ _ last in absurd (gave_up (rw e at due))
    by_test (inr other) =
        let e : (x.beats + 1 == 12) ≡ false = ne_eqb _ _ other in
        let same_sequence : sequence ≡ x.sequence = rw e at is-sequence in
        let same_payload : payload ≡ x.payload = rw e at is-payload in
        ap (λ s. up (request_frame number s payload) ∷ []) same_sequence
        ∙ ap (λ p. up (request_frame number x.sequence p) ∷ []) same_payload
        ∙ ap (λ d. sends_again d number (Some x)) (sym due)

pub nothing_sent : (number : ℕ) (sending : Option Sending) → beat_of sending ≡ Nothing → [] ≡ sends_again (beat_of sending) number sending
nothing_sent number sending due = ap (λ d. sends_again d number sending) (sym due)

pub given_up : (number : ℕ) (sending : Option Sending) → beat_of sending ≡ GaveUp → [] ≡ sends_again (beat_of sending) number sending
given_up number sending due = ap (λ d. sends_again d number sending) (sym due)

pub payload_fits : (s : State) → IsSound s → length (sent_payload s.sending) ≤ 1024
payload_fits s sound = few s.sending sound.sending
  where
    few : (sending : Option Sending) → IfSome sending (IsOutstanding s.next) → length (sent_payload sending) ≤ 1024
    few None h = omega arith
    few (Some x) h = h.payload

-- ---- what is kept in order

module _ (number : ℕ) (session : AnswererState) (ecp : State) (count : ℕ) where
  with_ecp : (ecp' : State) → IsSound ecp' → IsInOrder number session ecp count → IsInOrder number session ecp' count
  with_ecp ecp' sound h = record { numbered = h.numbered; answered = h.answered; spelled = h.spelled; sound = sound; beats = h.beats }

  pub order_beat : (ecp' : State) (count' : ℕ) → ecp' ≡ beaten ecp → count' < 16 → IsInOrder number session ecp count → IsInOrder number session ecp' count'
  order_beat ecp' count' is few h = record {
    numbered = h.numbered;
    answered = h.answered;
    spelled = h.spelled;
    sound = subst IsSound (sym is) (keeps_sound.keeps Beat ecp tt h.sound);
    beats = few;
  }

  pub order_acked : (sequence : ℕ) (ecp' : State) → ecp' ≡ acknowledged sequence ecp → IsInOrder number session ecp count → IsInOrder number session ecp' count
  order_acked sequence ecp' is h = with_ecp ecp' (subst IsSound (sym is) (keeps_sound.keeps (Acked sequence) ecp tt h.sound)) h

  pub order_heard : (sequence : ℕ) (ecp' : State) → sequence < 65536 → ecp' ≡ heard sequence ecp → IsInOrder number session ecp count → IsInOrder number session ecp' count
  order_heard sequence ecp' fits is h = with_ecp ecp' (subst IsSound (sym is) (keeps_sound.keeps (Received sequence) ecp fits h.sound)) h

  pub order_submitted : (payload : List ℕ) (halted ecp' : State) → length payload ≤ 1024 → halted ≡ stopped ecp → ecp' ≡ submitted payload halted → IsInOrder number session ecp count → IsInOrder number session ecp' count
  order_submitted payload halted ecp' fits stop is h =
      with_ecp ecp' (subst IsSound (sym is) (keeps_sound.keeps (Submit payload) halted fits (subst IsSound (sym stop) (keeps_sound.keeps Stop ecp tt h.sound)))) h

-- ---- beats

pub beats_state : (t : ExtenderTables) (old new : ControlState) → new.number ≡ old.number → new.session ≡ old.session → new.opened ≡ old.opened → new.ecp ≡ beaten old.ecp → new.beats ≡ next_count old.beats
    → state_with t new ≡ (beats (state_with t old)).0
unfolding beats
beats_state t old new number session opened ecp count = λ i. record { number = number i; tables = t; session = session i; ecp = ecp i; beats = count i; opened = opened i }

pub beats_sends : (t : ExtenderTables) (old : ControlState) (ports count : ℕ) (first second : List ℕ) → t.ports ≡ ports → count ≡ next_count old.beats
    → own_sent first ≡ cond (not old.opened && (count == 1)) (up (announcement_frame old.number ports) ∷ []) []
    → own_sent second ≡ sends_again (beat_of old.ecp.sending) old.number old.ecp.sending
    → own_sent first ++ own_sent second ≡ (beats (state_with t old)).1
unfolding beats
beats_sends t old ports count first second same-ports same-count announced again =
    ap (λ xs. xs ++ own_sent second) (announced
    ∙ ap (λ n. cond (not old.opened && (n == 1)) (up (announcement_frame old.number ports) ∷ []) []) same-count
    ∙ ap (λ n. cond (not old.opened && (next_count old.beats == 1)) (up (announcement_frame old.number n) ∷ []) []) (sym same-ports))
    ∙ ap (λ xs. cond (not old.opened && (next_count old.beats == 1)) (up (announcement_frame old.number t.ports) ∷ []) [] ++ xs) again

-- ---- answers

answer_few : (to : RequestKind) (code ports : ℕ) → length (answer_bytes to code ports) ≤ 2
answer_few kind.Open code ports = omega arith
answer_few kind.PortCreate code ports = omega arith
answer_few kind.PortDelete code ports = omega arith
answer_few kind.Register code ports = omega arith
answer_few kind.Unregister code ports = omega arith
answer_few kind.RegisterMany code ports = omega arith
answer_few kind.UnregisterMany code ports = omega arith

answer_short : (last : ℕ) (r : Response) → length (message_bytes (record { serial = last; body = Answer r })) ≤ 1024
unfolding message_bytes
answer_short last r =
    let few = answer_few r.to r.code r.ports in
    let head = length-append (to_be_bytes w64 last) (to_be_bytes w16 (length (answer_bytes r.to r.code r.ports)) ++ answer_bytes r.to r.code r.ports) in
    let tail = length-append (to_be_bytes w16 (length (answer_bytes r.to r.code r.ports))) (answer_bytes r.to r.code r.ports) in
    omega (arith, few, head, tail)

-- an answer is a short payload
pub answer_fits : (m : Message) (last : ℕ) (answer : Option Response) → Some m ≡ stored_message (record { last = last; answer = answer }) → length (message_bytes m) ≤ 1024
answer_fits m last None is = absurd (none_some is)
  where
    none_some : Some m ≡ None → ⊥
    none_some e = cc
answer_fits m last (Some r) is = subst (λ (n : Message). length (message_bytes n) ≤ 1024) (sym (some_same is)) (answer_short last r)
  where
    some_same : {a b : Message} → Some a ≡ Some b → a ≡ b
    some_same e = cc

row_code_few : (known stray taken : Bool) → cond (not known) 2 (cond stray 1 (cond taken 3 0)) ≤ 3
row_code_few false stray taken = omega arith
row_code_few true true taken = omega arith
row_code_few true false true = omega arith
row_code_few true false false = omega arith

rows_code_few : (t : ExtenderTables) (earlier rows : List GroupRow) → rows_code t earlier rows ≤ 3
unfolding rows_code
rows_code_few t earlier [] = omega arith
rows_code_few t earlier (row ∷ rows) =
    elim (row_code t earlier row.ecid row.mask == 0) as (λ b. cond b (rows_code t (earlier ++ row ∷ []) rows) (row_code t earlier row.ecid row.mask) ≤ 3) [
      | true ↦ rows_code_few t (earlier ++ row ∷ []) rows
      | false ↦ row_code_few (is_ecid row.ecid) (has_stray t row.mask) (has_pair t row.ecid || is_named earlier row.ecid)
    ]

clear_code_few : (known : Bool) → cond known 0 2 ≤ 3
clear_code_few true = omega arith
clear_code_few false = omega arith

clears_code_few : (ecids : List ℕ) → clears_code ecids ≤ 3
unfolding clears_code
clears_code_few [] = omega arith
clears_code_few (ecid ∷ ecids) =
    elim (clear_code ecid == 0) as (λ b. cond b (clears_code ecids) (clear_code ecid) ≤ 3) [
      | true ↦ clears_code_few ecids
      | false ↦ clear_code_few (is_ecid ecid)
    ]

create_code_few : (there channel taken : Bool) → cond (not there) 1 (cond (not channel) 2 (cond taken 3 0)) ≤ 3
create_code_few false channel taken = omega arith
create_code_few true false taken = omega arith
create_code_few true true true = omega arith
create_code_few true true false = omega arith

delete_code_few : (there : Bool) → cond there 0 1 ≤ 3
delete_code_few true = omega arith
delete_code_few false = omega arith

pub code_few : (t : ExtenderTables) (asked : Request) → code_of t asked ≤ 3
unfolding code_of
code_few t request.Open = omega arith
code_few t (request.PortCreate port cascade channel) = create_code_few (is_port t port) (is_channel channel) (nat_lt 0 (t.own port) || has_pair t channel)
code_few t (request.PortDelete port) = delete_code_few (is_port t port)
code_few t (request.Register ecid mask) = row_code_few (is_ecid ecid) (has_stray t mask) (has_pair t ecid || is_named [] ecid)
code_few t (request.Unregister ecid) = clear_code_few (is_ecid ecid)
code_few t (request.RegisterMany rows) = rows_code_few t [] rows
code_few t (request.UnregisterMany ecids) = clears_code_few ecids

ports_spelled : (asked : Request) (ports : ℕ) → 1 ≤ ports → ports ≤ 64 → IsPortCount (kind_of asked) (answered_ports ports asked)
ports_spelled request.Open ports some few = (omega arith, few)
ports_spelled (request.PortCreate port cascade channel) ports some few = refl
ports_spelled (request.PortDelete port) ports some few = refl
ports_spelled (request.Register ecid mask) ports some few = refl
ports_spelled (request.Unregister ecid) ports some few = refl
ports_spelled (request.RegisterMany rows) ports some few = refl
ports_spelled (request.UnregisterMany ecids) ports some few = refl

-- each response has a spelling
pub response_spelled : (t : ExtenderTables) (asked : Request) (serial : ℕ) → 0 < serial → 1 ≤ t.ports → t.ports ≤ 64
    → HasSpelling (record { serial = serial; body = Answer (response_to t asked) })
unfolding response_to
response_spelled t asked serial some ports few = record { numbered = some; spelled = (code_few t asked, ports_spelled asked t.ports ports few) }

-- what is known where a request is executed
pub record IsNext (s : AnswererState) (serial : ℕ) (asked given : Request) : Type 0 where
  pub some : 0 < serial
  pub same : given ≡ asked
  pub session : (arrived s serial asked).0 ≡ record { last = serial; answer = None }

pub executes_next : (s : AnswererState) (serial : ℕ) (asked given : Request) → (arrived s serial asked).1 ≡ Execute given → IsNext s serial asked given
executes_next s serial asked given due =
    elim (cases_eq serial 0) [
      | inl none ↦ let e : (serial == 0) ≡ true = eq-eqb _ _ none in absurd (ignored (rw e at due))
      | inr some ↦ elim (cases_eq serial s.last) [
        | inl same ↦
            let z : (serial == 0) ≡ false = ne_eqb _ _ some in
            let e : (serial == s.last) ≡ true = eq-eqb _ _ same in
            absurd (repeated (rw (z, e) at due))
        | inr other ↦ elim (cases_eq serial (s.last + 1)) [
          | inr later ↦
              let z : (serial == 0) ≡ false = ne_eqb _ _ some in
              let o : (serial == s.last) ≡ false = ne_eqb _ _ other in
              let e : (serial == s.last + 1) ≡ false = ne_eqb _ _ later in
              absurd (ignored (rw (z, o, e) at due))
          | inl next ↦
              let z : (serial == 0) ≡ false = ne_eqb _ _ some in
              let o : (serial == s.last) ≡ false = ne_eqb _ _ other in
              let e : (serial == s.last + 1) ≡ true = eq-eqb _ _ next in
              record { some = omega arith; same = sym (execute_same (rw (z, o, e) at due)); session = rw (z, o, e) refl }
        ]
      ]
    ]
  where
    ignored : Ignore ≡ Execute given → ⊥
    ignored e = cc

    repeated : Again ≡ Execute given → ⊥
    repeated e = cc

    execute_same : Execute asked ≡ Execute given → asked ≡ given
    execute_same e = cc

-- ---- frames

-- a frame with a header of ECP has 18 bytes
pub header_long : (f : List ℕ) (pdu : Pdu) → Ok pdu ≡ pdu_in f → 18 ≤ length f
header_long f pdu is =
    elim (cases_Bool (is_ecp f)) [
      | inr out ↦ absurd (no_header NotEcp (rw out at is))
      | inl ecp ↦ elim (cases_Bool (nat_lt (length f) 18)) [
        | inl short ↦ absurd (no_header Cut (rw (ecp, short) at is))
        | inr long ↦ ltb-false (length f) 18 long
      ]
    ]
  where
    no_header : (fault : EcpFault) → Ok pdu ≡ Err fault → ⊥
    no_header fault e = cc

-- ---- what comes of a request and of a frame

pub order_stored : (number : ℕ) (session : AnswererState) (ecp : State) (count serial : ℕ) (t : ExtenderTables) (given : Request) (session' : AnswererState)
    → session' ≡ record { last = serial; answer = Some (response_to t given) } → 0 < serial → 1 ≤ t.ports → t.ports ≤ 64
    → IsInOrder number session ecp count → IsInOrder number session' ecp count
order_stored number session ecp count serial t given session' is some ports few h =
    subst (λ (s : AnswererState). IsInOrder number s ecp count) (sym is) (record {
      numbered = h.numbered;
      answered = and_right (nat_lt 0 serial) false refl;
      spelled = response_spelled t given serial some ports few;
      sound = h.sound;
      beats = h.beats;
    })

pub stored_is : (session taken kept : AnswererState) (serial : ℕ) (asked given : Request) (t : ExtenderTables) (response : Response) → IsNext session serial asked given
    → taken ≡ (arrived session serial asked).0 → kept ≡ stored taken response → response ≡ response_to t given
    → kept ≡ record { last = serial; answer = Some (response_to t given) }
stored_is session taken kept serial asked given t response next taken-is kept-is response-is =
    kept-is ∙ ap (λ (s : AnswererState). stored s response) (taken-is ∙ next.session) ∙ ap (λ (r : Response). stored (record { last = serial; answer = None }) r) response-is

pub executes_is : (t t' : ExtenderTables) (old : ControlState) (taken kept : AnswererState) (serial : ℕ) (asked given : Request) (response : Response) (opened : Bool)
    → taken ≡ (arrived old.session serial asked).0 → kept ≡ stored taken response → response ≡ response_to t given → t' ≡ executed t given → opened ≡ (old.opened || is_open given)
    → state_with t' (record { number = old.number; session = kept; ecp = old.ecp; beats = old.beats; opened = opened }) ≡ executes (arrived old.session serial asked).0 given (state_with t old)
executes_is t t' old taken kept serial asked given response opened taken-is kept-is response-is tables-is opened-is =
    let session : kept ≡ stored (arrived old.session serial asked).0 (response_to t given) =
    kept-is ∙ ap (λ (s : AnswererState). stored s response) taken-is ∙ ap (λ (r : Response). stored (arrived old.session serial asked).0 r) response-is in
    λ i. record { number = old.number; tables = tables-is i; session = session i; ecp = old.ecp; beats = old.beats; opened = opened-is i }

pub turned : (s mid : ExtenderState) (serial : ℕ) (asked given : Request) → Execute given ≡ (arrived s.session serial asked).1
    → mid ≡ executes (arrived s.session serial asked).0 given s → answers mid ≡ takes_request serial asked s
turned s mid serial asked given due mid-is = ap answers mid-is ∙ ap (λ (d : Turn). by_turn (arrived s.session serial asked).0 d s) due

pub heard_by : (f : List ℕ) (s : ExtenderState) (r : Result Pdu EcpFault) → r ≡ pdu_in f → hears_pdu r f s ≡ hears f s
unfolding hears
heard_by f s r is = ap (λ (x : Result Pdu EcpFault). hears_pdu x f s) is
