-- Onto which links words go, and that in a round in which each word passes all links are emptied: upwards from the deepest,
-- downwards from the bridge.
use Rattle.std.proofs.Common.{◌≡◌, inl, inr, ℕ, ◌≤◌, ◌<◌, ◌==◌, ◌&&◌, nat_lt, Bool, true, false, cond, List, [], ◌∷◌, drop, map, Option, Some, None, Ok, Err, refl, sym, ◌∙◌, arith}
use Rattle.std.specs.Prelude.{Result}
use Rattle.std.proofs.lemmas.Bool.{cases_Bool, cases_lt, lt-ltb, le-ltb, ltb-true, and_parts}
use Rattle.exb_model.specs.Tree.{Shape, IsTree, device, on, is_extender, port_number}
use Rattle.exb_model.specs.Setup.{Limits}
use Rattle.exb_model.specs.ExtenderForwarding.{emits}
use Rattle.exb_model.specs.ETags.{read_etag, tagged}
use Rattle.exb_csp.specs.Execution.{ExtenderTables}
use Rattle.exb_csp.specs.declared.fault.CspFault.{CspFault}
use Rattle.exb_csp.specs.declared.message.Body.{Body}
use Rattle.exb_csp.specs.declared.message.Body.TheVariants.{Ask, Answer}
use Rattle.exb_csp.specs.declared.message.Message.{Message}
use Rattle.exb_csp.specs.Decoding.{read_message}
use Rattle.exb_ecp.specs.declared.pdu.Pdu.{Pdu}
use Rattle.exb_ecp.specs.declared.pdu.EcpFault.{EcpFault}
use Rattle.exb_ecp.specs.Frames.{pdu_in}
use Rattle.exb_ecp.specs.StopAndWait.{is_fresh, heard}
use Rattle.exb_csp.specs.declared.session.answerer.Due.{Due as Turn}
use Rattle.exb_csp.specs.declared.session.answerer.Due.TheVariants.{Execute, Again, Ignore}
use Rattle.exb_csp.specs.Sessions.AnsweringEnd.{AnswererState, arrived, stored_message}
use Rattle.exb_extender.specs.declared.sends.Side.TheVariants as side
use Rattle.exb_csp.specs.AllTables.{port_of}
use Rattle.exb_extender.specs.Forwarding.{Sent, forwarding_of, sent_at, emitted, names_channel, is_bare_control, is_ignored, channel_tag, sent_from_cascade, sent_from_external}
use Rattle.exb_extender.specs.Machine.{ExtenderState, IsExtender, Arrives, Reaction, react, submits, by_turn, executes, takes_body, takes_message, hears_request, hears_pdu, hears}
use Rattle.exb_link.specs.declared.link_frame.LinkFrame.{LinkFrame}
use Rattle.exb_world_spec.specs.Worlds.{World, Up, Down}
use Rattle.exb_world_spec.specs.Effects.{only}
use Rattle.exb_world_spec.specs.ExtenderSteps.{reacts}
use Rattle.exb_world_spec.specs.Runs.Sessions.{Each}
use Rattle.exb_world_spec.specs.Steps.{takes}
use Rattle.exb_world_spec.proofs.LinkFrames.{each_range, each_weaker}
use Rattle.exb_settling_laws.proofs.LinkGrowth.{Grows, MaySend, does_grows, none_grows, bridge_takes_grows, either, Any}

-- ---- what an extender sends, and where
abbrev pub AllUp : List Sent → Type 0
AllUp xs = Each (λ (x : Sent). x.side ≡ side.Up) xs

submits_up : (o : Option Message) (s : ExtenderState) → AllUp (submits o s).1
submits_up None s = tt
submits_up (Some m) s = (refl, tt)

by_turn_up : (session : AnswererState) (turn : Turn) (s : ExtenderState) → AllUp (by_turn session turn s).1
by_turn_up session (Execute asked) s = submits_up (stored_message (executes session asked s).session) (executes session asked s)
by_turn_up session Again s = submits_up (stored_message s.session) s
by_turn_up session Ignore s = tt

takes_body_up : (serial : ℕ) (b : Body) (s : ExtenderState) → AllUp (takes_body serial b s).1
takes_body_up serial (Ask asked) s = by_turn_up (arrived s.session serial asked).0 (arrived s.session serial asked).1 s
takes_body_up serial (Answer response) s = tt

takes_message_up : (r : Result Message CspFault) (s : ExtenderState) → AllUp (takes_message r s).1
takes_message_up (Ok m) s = takes_body_up m.serial m.body s
takes_message_up (Err fault) s = tt

either_up : (b : Bool) (x y : Reaction) → AllUp x.1 → AllUp y.1 → AllUp (cond b x y).1
either_up true x y h k = h
either_up false x y h k = k

hears_request_up : (sequence : ℕ) (payload : List ℕ) (s : ExtenderState) → AllUp (hears_request sequence payload s).1
hears_request_up sequence payload s =
    (refl, either_up (is_fresh sequence s.ecp) (takes_message (read_message payload) (record s { ecp = heard sequence s.ecp })) (s, []) (takes_message_up (read_message payload) (record s { ecp = heard sequence s.ecp })) tt)

hears_pdu_up : (r : Result Pdu EcpFault) (f : List ℕ) (s : ExtenderState) → AllUp (hears_pdu r f s).1
hears_pdu_up (Err fault) f s = tt
hears_pdu_up (Ok pdu) f s =
    elim (cases_Bool (pdu.subtype == 2)) [
      | inr e ↦ rw e tt
      | inl e ↦ elim (cases_Bool pdu.acknowledgement) [ inl a ↦ rw (e, a) tt | inr a ↦ rw (e, a) (hears_request_up pdu.sequence (drop 18 f) s) ]
    ]

pub hears_up : (f : List ℕ) (s : ExtenderState) → AllUp (hears f s).1
unfolding hears
hears_up f s = hears_pdu_up (pdu_in f) f s

-- of a frame from a port
either_sent : (b : Bool) (x y : List Sent) → AllUp x → AllUp y → AllUp (cond b x y)
either_sent true x y h k = h
either_sent false x y h k = k

pub from_port_up : (x : ExtenderTables) (k : ℕ) (f : List ℕ) → AllUp (emitted x (side.Port k) f)
unfolding emitted
from_port_up x k f =
    either_sent (x.cascade k) (sent_from_cascade (x.own k) f) (sent_from_external (x.own k) f)
    (either_sent (names_channel (read_etag f)) (record { side = side.Up; bytes = f } ∷ []) (cond (is_bare_control f && nat_lt 0 (x.own k)) (record { side = side.Up; bytes = tagged f (channel_tag (x.own k)) } ∷ []) []) (refl, tt)
    (either_sent (is_bare_control f && nat_lt 0 (x.own k)) (record { side = side.Up; bytes = tagged f (channel_tag (x.own k)) } ∷ []) [] (refl, tt) tt))
    (either_sent (is_ignored (x.own k) f) [] (record { side = side.Up; bytes = tagged f (channel_tag (x.own k)) } ∷ []) tt (refl, tt))

-- of a frame from upstream: at its ports
pub record IsAtPort (ports : ℕ) (x : Sent) : Type 0 where
  pub port : ℕ
  pub low : 0 < port
  pub high : port ≤ ports
  pub at : x.side ≡ side.Port port

pub from_above : (x : ExtenderTables) (f : List ℕ) → Each (IsAtPort x.ports) (emitted x side.Up f)
unfolding emitted
from_above x f = each_range (IsAtPort x.ports) (sent_at x f) 1 x.ports (λ q low high. by_list q (emits (forwarding_of x) q f) low (omega arith))
  where
    by_list : (q : ℕ) (bs : List (List ℕ)) → 1 ≤ q → q ≤ x.ports → Each (IsAtPort x.ports) (map (λ (bytes : List ℕ). record { side = side.Port q; bytes = bytes }) bs)
    by_list q [] low high = tt
    by_list q (b ∷ bs) low high = (record { port = q; low = low; high = high; at = refl }, by_list q bs low high)

-- ---- the links that get words
module _ (t : Shape) (l : Limits) (tree : IsTree t) where
  abbrev pub OntoAbove : ℕ → ℕ → LinkFrame → Type 0
  OntoAbove n m x = (64 ≤ on t n) × (m ≡ device (on t n))

  abbrev pub OntoOwn : ℕ → ℕ → LinkFrame → Type 0
  OntoOwn n m x = m ≡ n

  abbrev pub OntoBelow : ℕ → ℕ → LinkFrame → Type 0
  OntoBelow n m x = (64 ≤ on t m) × (device (on t m) ≡ n) × (is_extender t m ≡ true)

  -- a word that is taken from below goes onto the link above, or down from the bridge
  pub up_links : (n : ℕ) (x : LinkFrame) (w : World) → Grows t l Any (OntoAbove n) w (takes t l n Up x w).world
  up_links n x w =
      elim (cases_lt (on t n) 64) [
        | inl low ↦ rw (lt-ltb (on t n) 64 low) (bridge_takes_grows t l Any (OntoAbove n) (λ m y. tt) (on t n) n x w)
        | inr deep ↦
            let a : ℕ = device (on t n) in
            let k : ℕ = port_number (on t n) in
            rw (le-ltb (on t n) 64 deep) (
            either t l Any (OntoAbove n) (λ m y. tt) ((w.far a).tables.cascade k) (reacts t a x.stamp (Arrives (side.Port k) x.bytes) w) (only w) w
            (does_grows t l Any (OntoAbove n) a x.stamp (react (Arrives (side.Port k) x.bytes) (w.far a)) w
            (each_weaker (λ (s : Sent). s.side ≡ side.Up) (MaySend t l Any (OntoAbove n) a x.stamp) (emitted (w.far a).tables (side.Port k) x.bytes) (λ s e. record { rises = (λ z. (deep, refl)); sinks = (λ q m z h. tt) }) (from_port_up (w.far a).tables k x.bytes)))
            (none_grows t l Any (OntoAbove n) w))
      ]

  -- a word that is taken from above goes onto the links below, and answers go up
  pub down_links : (n : ℕ) (x : LinkFrame) (w : World) → is_extender t n ≡ true → IsExtender (w.far n) → Grows t l (OntoBelow n) (OntoOwn n) w (takes t l n Down x w).world
  down_links n x w there is =
      does_grows t l (OntoBelow n) (OntoOwn n) n x.stamp (react (Arrives side.Up x.bytes) (w.far n)) w (by_kind (is_bare_control x.bytes))
    where
      up_may : (s : Sent) → s.side ≡ side.Up → MaySend t l (OntoBelow n) (OntoOwn n) n x.stamp s
      up_may s e = record { rises = λ z. refl; sinks = λ q m z h. absurd (up_port q (sym e ∙ z)) }
        where
          up_port : (q : ℕ) → side.Up ≡ side.Port q → ⊥
          up_port q z = cc

      first : 0 < n
      first = ltb-true 0 n (and_parts (nat_lt 0 n) _ there).0

      port_may : (s : Sent) → IsAtPort (w.far n).tables.ports s → MaySend t l (OntoBelow n) (OntoOwn n) n x.stamp s
      port_may s p =
          record {
            rises = λ z. absurd (port_up p.port (sym p.at ∙ z));
            sinks = λ q m z h.
                let same : p.port ≡ q = same_port p.port q (sym p.at ∙ z) in
                let is_at : on t m ≡ port_of n q = h.at in
                let low : 0 < p.port = p.low in
                let high : p.port ≤ (w.far n).tables.ports = p.high in
                let few : (w.far n).tables.ports ≤ 64 = is.ports.1 in
                let deep : 64 ≤ on t m = omega (arith, first) in
                let dev : device (on t m) ≡ n = omega (arith, first) in
                (deep, dev, Rattle.exb_world_spec.proofs.Trunks.extender_there t m (port_of n q) h);
          }
        where
          port_up : (q : ℕ) → side.Port q ≡ side.Up → ⊥
          port_up q z = cc

          same_port : (i q : ℕ) → side.Port i ≡ side.Port q → i ≡ q
          same_port i q z = cc

      by_kind : (b : Bool) → Each (MaySend t l (OntoBelow n) (OntoOwn n) n x.stamp) (cond b (hears x.bytes (w.far n)) (w.far n, emitted (w.far n).tables side.Up x.bytes)).1
      by_kind true = each_weaker (λ (s : Sent). s.side ≡ side.Up) (MaySend t l (OntoBelow n) (OntoOwn n) n x.stamp) (hears x.bytes (w.far n)).1 up_may (hears_up x.bytes (w.far n))
      by_kind false = each_weaker (IsAtPort (w.far n).tables.ports) (MaySend t l (OntoBelow n) (OntoOwn n) n x.stamp) (emitted (w.far n).tables side.Up x.bytes) port_may (from_above (w.far n).tables x.bytes)
