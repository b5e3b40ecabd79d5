-- What extenders send is bytes and short, and so is what their ends of the transport keep.
use Rattle.std.proofs.Common.{◌≡◌, ℕ, ◌+◌, ◌<◌, ◌≤◌, ◌==◌, ◌&&◌, ◌||◌, not, nat_lt, Bool, true, false, cond, List, [], ◌∷◌, length, map, drop, Option, Some, None, Ok, Err, refl, ap, sym, subst, arith, inl, inr}
use Rattle.std.specs.Prelude.{Result, IfSome}
use Rattle.std.proofs.lemmas.Bool.{cases_Bool, and_parts}
use Rattle.exb_model.specs.Frames.{kind_of, IsBytes}
use Rattle.exb_model.specs.ETags.{Tag, TagFits, read_etag, tagged, stripped}
use Rattle.exb_model.specs.ExtenderForwarding.{takes, left_out, bare, emits, emits_tagged}
use Rattle.exb_frame.specs.TagValues.{TagRoundTrip}
use Rattle.exb_lldp.specs.Encoding.{spelling as announcement}
use Rattle.exb_lldp.specs.declared.announce.Announce.{Announce}
use Rattle.exb_lldp.proofs.RoundTrip.{spelling_is}
use Rattle.exb_ecp.specs.declared.pdu.Pdu.{Pdu}
use Rattle.exb_ecp.specs.declared.pdu.EcpFault.{EcpFault}
use Rattle.exb_ecp.specs.declared.stop_and_wait.Beat.{Beat as Due}
use Rattle.exb_ecp.specs.declared.stop_and_wait.Beat.TheVariants as due
use Rattle.exb_ecp.specs.Frames.{pdu_in, spelling, carried}
use Rattle.exb_ecp.specs.StopAndWait.{Sending, State as Ecp, submitted, stopped, acknowledged, is_fresh, beaten, beat_of, aged, unless_sequence, IsOutstanding}
use Rattle.exb_ecp.specs.StopAndWait.{heard as received}
use Rattle.exb_ecp.proofs.RoundTrip.{length_spelling}
use Rattle.exb_csp.specs.declared.fault.CspFault.{CspFault}
use Rattle.exb_csp.specs.declared.message.Body.{Body}
use Rattle.exb_csp.specs.declared.message.Body.TheVariants as body
use Rattle.exb_csp.specs.declared.message.Message.{Message}
use Rattle.exb_csp.specs.declared.message.Response.{Response}
use Rattle.exb_csp.specs.Decoding.{read_message}
use Rattle.exb_csp.specs.Encoding.{message_bytes, HasSpelling}
use Rattle.exb_csp.specs.Execution.{ExtenderTables}
use Rattle.exb_csp.specs.declared.session.answerer.Due.{Due as Turn}
use Rattle.exb_csp.specs.declared.session.answerer.Due.TheVariants as turn
use Rattle.exb_csp.specs.Sessions.AnsweringEnd.{AnswererState, arrived, stored_message}
use Rattle.exb_extender.specs.declared.sends.Side.{Side}
use Rattle.exb_extender.specs.declared.sends.Side.TheVariants as side
use Rattle.exb_extender.specs.Forwarding.{Sent, up, forwarding_of, channel_tag, has_etag_type, is_bare_control, names_channel, is_refused_kind, emitted, sent_at}
use Rattle.exb_extender.specs.Machine.{ExtenderState, Reaction, IsExtender, control_pdu, submits, answers, executes, by_turn, takes_body, takes_message, announces, next_count, address_of, hears_request, hears_pdu, hears, sends_again, beats}
use Rattle.exb_extender.proofs.ControlLemmas.{answer_fits}
use Rattle.exb_world_spec.specs.Runs.Sessions.{Each}
use Rattle.exb_world_spec.specs.Runs.FrameBytes.{IsDownward, IsUpward, SendsBytes}
use Rattle.exb_world_spec.proofs.Bytes.{stripped_bytes, stripped_short, tagged_bytes, tagged_short, let_in, spelled_bytes, announcement_bytes, header_small, message_written}
use Rattle.exb_world_spec.proofs.Frames.{bare_is, read_typed, typed_not_bare, tag_fits}
use Rattle.exb_world_spec.proofs.LinkFrames.{each_append, each_range}

-- by its side
abbrev pub GoesAs : Side → List ℕ → Type 0
GoesAs side.Up f = IsUpward f
GoesAs (side.Port q) f = IsDownward f

abbrev pub Goes : Sent → Type 0
Goes x = GoesAs x.side x.bytes

-- all that is sent, and what the end keeps
pub record GoesWell (r : Reaction) : Type 0 where
  pub sent : Each Goes r.1
  pub keeps : SendsBytes r.0.ecp

-- ---- the ends of the transport
none_some : {x : Sending} → None ≡ Some x → ⊥
none_some e = cc

some_same : {x y : Sending} → Some x ≡ Some y → x ≡ y
some_same e = cc

pub sends_nothing : (e : Ecp) → SendsBytes (stopped e)
sends_nothing e = record { payload = λ x h. absurd (none_some h) }

pub sends_submitted : (payload : List ℕ) (e : Ecp) → IsBytes payload → SendsBytes (submitted payload e)
sends_submitted payload e bytes = record { payload = λ x h. (let P : Sending → Type 0 = λ y. IsBytes y.payload in subst P (some_same h) bytes) }

pub sends_received : (sequence : ℕ) (e : Ecp) → SendsBytes e → SendsBytes (received sequence e)
sends_received sequence e k = record { payload = k.payload }

pub sends_acknowledged : (sequence : ℕ) (e : Ecp) → SendsBytes e → SendsBytes (acknowledged sequence e)
sends_acknowledged sequence e k = record { payload = λ x h. by_option e.sending k.payload x h }
  where
    by_option : (o : Option Sending) → ((y : Sending) → o ≡ Some y → IsBytes y.payload) → (x : Sending) → unless_sequence sequence o ≡ Some x → IsBytes x.payload
    by_option None all x h = absurd (none_some h)
    by_option (Some y) all x h = elim (cases_Bool (y.sequence == sequence)) [ inl z ↦ absurd (none_some (rw z at h)) | inr z ↦ all x (rw z at h) ]

pub sends_beaten : (e : Ecp) → SendsBytes e → SendsBytes (beaten e)
sends_beaten e k = record { payload = λ x h. by_option e.sending k.payload x h }
  where
    by_option : (o : Option Sending) → ((y : Sending) → o ≡ Some y → IsBytes y.payload) → (x : Sending) → aged o ≡ Some x → IsBytes x.payload
    by_option None all x h = absurd (none_some h)
    by_option (Some y) all x h =
        elim (cases_Bool (y.beats + 1 == 12)) [
          | inl z ↦ absurd (none_some (rw z at h))
          | inr z ↦
              let is : record { sequence = y.sequence; beats = y.beats + 1; payload = y.payload } ≡ x = some_same (rw z at h) in
              let P : Sending → Type 0 = λ v. IsBytes v.payload in
              subst P is (all y refl)
        ]

-- ---- own frames
carried_short : (ack : Bool) (sequence : ℕ) (payload : List ℕ) → length (carried (control_pdu ack sequence) payload) ≤ length payload
carried_short true sequence payload = omega arith
carried_short false sequence payload = omega arith

pub spelled_short : (a b c d e g : ℕ) (ack : Bool) (sequence : ℕ) (payload : List ℕ) → length payload ≤ 1024 → length (spelling (record { 0 = a ∷ b ∷ c ∷ d ∷ e ∷ g ∷ [] }) (control_pdu ack sequence) payload) ≤ 1042
spelled_short a b c d e g ack sequence payload few =
    let long = length_spelling (record { 0 = a ∷ b ∷ c ∷ d ∷ e ∷ g ∷ [] }) (control_pdu ack sequence) payload refl in
    let less = carried_short ack sequence payload in
    omega (arith, long, less, few)

own_goes : (number : ℕ) (ack : Bool) (sequence : ℕ) (payload : List ℕ) → number ≤ 64 → sequence < 65536 → IsBytes payload → length payload ≤ 1024 → IsUpward (spelling (address_of number) (control_pdu ack sequence) payload)
own_goes number ack sequence payload low small bytes few =
    let short = spelled_short 2 69 66 1 0 number ack sequence payload few in
    record {
      bytes = spelled_bytes 2 69 66 1 0 number (omega arith, (omega arith, (omega arith, (omega arith, (omega arith, (omega (arith, low), tt)))))) ack sequence payload small bytes;
      short = omega (arith, short);
      bare = λ e. omega (arith, short);
    }

no_bytes : IsBytes []
no_bytes i = omega arith

-- ---- an extender answers
abbrev HasAnswer : ExtenderState → Type 0
HasAnswer s = IfSome (stored_message s.session) HasSpelling

stored_written : (last : ℕ) (o : Option Response) (m : Message) → stored_message (record { last = last; answer = o }) ≡ Some m → IfSome (stored_message (record { last = last; answer = o })) HasSpelling → IsBytes (message_bytes m)
stored_written last None m is k = absurd (let z : None ≡ Some m = is in no_message z)
  where
    no_message : None ≡ Some m → ⊥
    no_message e = cc
stored_written last (Some r) m is k =
    let x : Message = record { serial = last; body = body.Answer r } in
    let z : Some x ≡ Some m = is in
    subst (λ (n : Message). IsBytes (message_bytes n)) (same_message z) (message_written x k.spelled tt)
  where
    same_message : {a b : Message} → Some a ≡ Some b → a ≡ b
    same_message e = cc

module _ (s : ExtenderState) (low : s.number ≤ 64) (small : s.ecp.next < 65536) (keeps : SendsBytes s.ecp) where
  submits_goes : (o : Option Message) → stored_message s.session ≡ o → HasAnswer s → GoesWell (submits o s)
  submits_goes None is k = record { sent = tt; keeps = keeps }
  submits_goes (Some m) is k =
      let bytes : IsBytes (message_bytes m) = stored_written s.session.last s.session.answer m is k in
      let few : length (message_bytes m) ≤ 1024 = answer_fits m s.session.last s.session.answer (sym is) in
      record { sent = (own_goes s.number false s.ecp.next (message_bytes m) low small bytes few, tt); keeps = sends_submitted (message_bytes m) s.ecp bytes }

  answers_goes : HasAnswer s → GoesWell (answers s)
  answers_goes k = submits_goes (stored_message s.session) refl k

-- what an extender stores has a spelling also before it goes out
has_before : (o : Option Message) (s : ExtenderState) → IsExtender (submits o s).0 → HasAnswer s
has_before None s k = k.spelled
has_before (Some m) s k = k.spelled

turn_goes : (session : AnswererState) (x : Turn) (s : ExtenderState) → s.number ≤ 64 → s.ecp.next < 65536 → SendsBytes s.ecp → IsExtender (by_turn session x s).0 → GoesWell (by_turn session x s)
turn_goes session (turn.Execute asked) s low small keeps is =
    let u : ExtenderState = executes session asked s in
    answers_goes u low small keeps (has_before (stored_message u.session) u is)
turn_goes session turn.Again s low small keeps is = answers_goes s low small keeps (has_before (stored_message s.session) s is)
turn_goes session turn.Ignore s low small keeps is = record { sent = tt; keeps = keeps }

body_goes : (serial : ℕ) (b : Body) (s : ExtenderState) → s.number ≤ 64 → s.ecp.next < 65536 → SendsBytes s.ecp → IsExtender (takes_body serial b s).0 → GoesWell (takes_body serial b s)
body_goes serial (body.Ask asked) s low small keeps is = turn_goes (arrived s.session serial asked).0 (arrived s.session serial asked).1 s low small keeps is
body_goes serial (body.Answer response) s low small keeps is = record { sent = tt; keeps = keeps }

message_goes : (r : Result Message CspFault) (s : ExtenderState) → s.number ≤ 64 → s.ecp.next < 65536 → SendsBytes s.ecp → IsExtender (takes_message r s).0 → GoesWell (takes_message r s)
message_goes (Ok m) s low small keeps is = body_goes m.serial m.body s low small keeps is
message_goes (Err fault) s low small keeps is = record { sent = tt; keeps = keeps }

request_goes : (sequence : ℕ) (payload : List ℕ) (s : ExtenderState) → sequence < 65536 → IsExtender s → SendsBytes s.ecp → IsExtender (hears_request sequence payload s).0 → GoesWell (hears_request sequence payload s)
request_goes sequence payload s fits is keeps after = by_fresh (is_fresh sequence s.ecp) after
  where
    by_fresh : (fresh : Bool) → IsExtender (cond fresh (takes_message (read_message payload) (record s { ecp = received sequence s.ecp })) (s, [])).0 →
        GoesWell ((cond fresh (takes_message (read_message payload) (record s { ecp = received sequence s.ecp })) (s, [])).0, up (spelling (address_of s.number) (control_pdu true sequence) []) ∷ (cond fresh (takes_message (read_message payload) (record s { ecp = received sequence s.ecp })) (s, [])).1)
    by_fresh true later =
        let k = message_goes (read_message payload) (record s { ecp = received sequence s.ecp }) is.numbered.1 is.ecp.next (sends_received sequence s.ecp keeps) later in
        record { sent = (own_goes s.number true sequence [] is.numbered.1 fits no_bytes (omega arith), k.sent); keeps = k.keeps }
    by_fresh false later = record { sent = (own_goes s.number true sequence [] is.numbered.1 fits no_bytes (omega arith), tt); keeps = keeps }

pdu_goes : (r : Result Pdu EcpFault) (f : List ℕ) (s : ExtenderState) → ((p : Pdu) → r ≡ Ok p → p.sequence < 65536) → IsExtender s → SendsBytes s.ecp → IsExtender (hears_pdu r f s).0 → GoesWell (hears_pdu r f s)
pdu_goes (Err fault) f s small is keeps after = record { sent = tt; keeps = keeps }
pdu_goes (Ok p) f s small is keeps after = by_flags (p.subtype == 2) p.acknowledgement after
  where
    by_flags : (a b : Bool) → IsExtender (cond a (cond b (record s { ecp = acknowledged p.sequence s.ecp }, []) (hears_request p.sequence (drop 18 f) s)) (s, [])).0 →
        GoesWell (cond a (cond b (record s { ecp = acknowledged p.sequence s.ecp }, []) (hears_request p.sequence (drop 18 f) s)) (s, []))
    by_flags true true later = record { sent = tt; keeps = sends_acknowledged p.sequence s.ecp keeps }
    by_flags true false later = request_goes p.sequence (drop 18 f) s (small p refl) is keeps later
    by_flags false b later = record { sent = tt; keeps = keeps }

-- an extender hears a control frame
pub hears_goes : (f : List ℕ) (s : ExtenderState) → IsBytes f → IsExtender s → SendsBytes s.ecp → IsExtender (hears f s).0 → GoesWell (hears f s)
unfolding hears
hears_goes f s bytes is keeps after = pdu_goes (pdu_in f) f s (header_small f bytes) is keeps after

-- ---- an extender forwards
-- a frame from upstream goes on as it is, or without its E-TAG
pub down_goes : (x : ExtenderTables) (f : List ℕ) → IsDownward f → Each Goes (emitted x side.Up f)
unfolding emitted emits
down_goes x f k = each_range Goes (sent_at x f) 1 x.ports (λ q low high. by_tag q (read_etag f))
  where
    out : IsDownward (stripped f)
    out = record { bytes = stripped_bytes f k.bytes; short = (let a = stripped_short f in let b = k.short in omega (arith, a, b)) }

    by_flags : (q : ℕ) (a b c : Bool) → Each Goes (map (λ bytes. record { side = side.Port q; bytes = bytes }) (cond a (cond b [] (cond c (stripped f ∷ []) (f ∷ []))) []))
    by_flags q true true c = tt
    by_flags q true false true = (out, tt)
    by_flags q true false false = (k, tt)
    by_flags q false b c = tt

    by_tag : (q : ℕ) (o : Option Tag) → Each Goes (map (λ bytes. record { side = side.Port q; bytes = bytes }) (emits_tagged (forwarding_of x) q f o))
    by_tag q None = tt
    by_tag q (Some tag) = by_flags q (takes (forwarding_of x) q tag) (left_out (forwarding_of x) q tag) (bare (forwarding_of x) q tag)

both_ways : (b : Bool) → b ≡ true → b ≡ false → ⊥
both_ways b x y = cc

-- a frame that gets an E-TAG
with_tag : TagRoundTrip → (f : List ℕ) (channel : ℕ) → IsBytes f → 14 ≤ length f → length f ≤ 9216 → channel < 4095 → IsUpward (tagged f (channel_tag channel))
with_tag round f channel bytes long short small =
    let tag : Tag = channel_tag channel in
    let fits : TagFits tag = tag_fits channel small in
    let typed : has_etag_type (tagged f tag) ≡ true = read_typed (tagged f tag) tag (round f tag (omega arith) fits).0 in
    record {
      bytes = tagged_bytes f tag bytes fits;
      short = (let a = tagged_short f tag in omega (arith, a, short));
      bare = λ e. absurd (both_ways (is_bare_control (tagged f tag)) e (typed_not_bare (tagged f tag) typed));
    }

-- a frame from a cascade port
pub below_goes : TagRoundTrip → (x : ExtenderTables) (q : ℕ) (f : List ℕ) → x.own q < 4095 → x.cascade q ≡ true → IsUpward f → Each Goes (emitted x (side.Port q) f)
unfolding emitted
below_goes round x q f small cascade k = rw cascade (by_flags (names_channel (read_etag f)) (is_bare_control f && nat_lt 0 (x.own q)) refl)
  where
    by_flags : (a b : Bool) → (is_bare_control f && nat_lt 0 (x.own q)) ≡ b → Each Goes (cond a (up f ∷ []) (cond b (up (tagged f (channel_tag (x.own q))) ∷ []) []))
    by_flags true b e = (k, tt)
    by_flags false true e =
        let is : is_bare_control f ≡ true = (and_parts (is_bare_control f) (nat_lt 0 (x.own q)) e).0 in
        let few : length f ≤ 1100 = k.bare is in
        (with_tag round f (x.own q) k.bytes (bare_is f is).long (omega (arith, few)) small, tt)
    by_flags false false e = tt

-- a frame from an external port
pub station_goes : TagRoundTrip → (x : ExtenderTables) (q : ℕ) (f : List ℕ) → x.own q < 4095 → x.cascade q ≡ false → IsBytes f → Each Goes (emitted x (side.Port q) f)
unfolding emitted
station_goes round x q f small cascade bytes = rw cascade (by_kind (is_refused_kind (kind_of f)) refl)
  where
    by_both : (a b : Bool) → b ≡ is_refused_kind (kind_of f) → Each Goes (cond (a || b) [] (up (tagged f (channel_tag (x.own q))) ∷ []))
    by_both true b e = tt
    by_both false true e = tt
    by_both false false e = (let k = let_in f (sym e) in (with_tag round f (x.own q) bytes k.0 k.1 small, tt))

    by_kind : (b : Bool) → b ≡ is_refused_kind (kind_of f) → Each Goes (cond (x.own q == 0 || b) [] (up (tagged f (channel_tag (x.own q))) ∷ []))
    by_kind b e = by_both (x.own q == 0) b e

-- ---- beats
announces_goes : (b : Bool) (number ports : ℕ) → number ≤ 64 → ports ≤ 64 → Each Goes (cond b (up (announcement (record { chassis = address_of number; ports = ports })) ∷ []) [])
announces_goes false number ports low few = tt
announces_goes true number ports low few =
    let x : Announce = record { chassis = address_of number; ports = ports } in
    let long : length (announcement x) ≡ 41 = ap length (spelling_is x refl) in (
      record {
        bytes = announcement_bytes 2 69 66 1 0 number ports (omega arith, (omega arith, (omega arith, (omega arith, (omega arith, (omega (arith, low), tt)))))) (omega (arith, few));
        short = omega (arith, long);
        bare = λ e. omega (arith, long);
      },
      tt,
    )

pub record CanRepeat (o : Option Sending) : Type 0 where
  pub each : (x : Sending) → o ≡ Some x → (x.sequence < 65536) × (length x.payload ≤ 1024)

pub can_repeat : (next : ℕ) (o : Option Sending) → IfSome o (IsOutstanding next) → CanRepeat o
can_repeat next None k = record { each = λ x e. absurd (none_some e) }
can_repeat next (Some y) k = record { each = λ x e. (let P : Sending → Type 0 = λ z. (z.sequence < 65536) × (length z.payload ≤ 1024) in subst P (some_same e) (k.sequence, k.payload)) }

again_goes : (d : Due) (number : ℕ) (o : Option Sending) → number ≤ 64 → CanRepeat o → ((x : Sending) → o ≡ Some x → IsBytes x.payload) → Each Goes (sends_again d number o)
again_goes due.SendAgain number (Some x) low can bytes = (let k = can.each x refl in (own_goes number false x.sequence x.payload low k.0 (bytes x refl) k.1, tt))
again_goes due.SendAgain number None low can bytes = tt
again_goes due.Nothing number o low can bytes = tt
again_goes due.GaveUp number o low can bytes = tt

pub beats_goes : (s : ExtenderState) → IsExtender s → SendsBytes s.ecp → GoesWell (beats s)
unfolding beats
beats_goes s is keeps =
    record {
      sent = each_append Goes (announces (next_count s.beats) s) (sends_again (beat_of s.ecp.sending) s.number s.ecp.sending)
          (announces_goes (not s.opened && (next_count s.beats == 1)) s.number s.tables.ports is.numbered.1 is.ports.1)
          (again_goes (beat_of s.ecp.sending) s.number s.ecp.sending is.numbered.1 (can_repeat s.ecp.next s.ecp.sending is.ecp.sending) keeps.payload);
      keeps = sends_beaten s.ecp keeps;
    }
