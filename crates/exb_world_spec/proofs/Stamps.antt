-- Data words have stamps.
use Rattle.std.proofs.Common.{◌≡◌, ℕ, ◌==◌, ◌&&◌, ◌++◌, not, nat_lt, Bool, true, false, cond, List, [], ◌∷◌, map, drop, Option, Some, None, Ok, Err, filter, refl, sym, ◌∙◌, subst, inl, inr}
use Rattle.std.specs.Prelude.{Result, nat_eq}
use Rattle.std.proofs.lemmas.Bool.{false≢true, cases_Bool}
use Rattle.exb_model.specs.Tree.{Shape, on, device, port_number}
use Rattle.exb_model.specs.Setup.{Limits}
use Rattle.exb_model.specs.Frames.{is_control_frame}
use Rattle.exb_model.specs.ETags.{Tag, read_etag, tagged, stripped}
use Rattle.exb_model.specs.ExtenderForwarding.{takes, left_out, bare, emits, emits_tagged}
use Rattle.exb_model.specs.EagerHistory.{arrival_event}
use Rattle.exb_lldp.specs.Encoding.{spelling as announcement}
use Rattle.exb_ecp.specs.declared.pdu.Pdu.{Pdu}
use Rattle.exb_ecp.specs.declared.pdu.EcpFault.{EcpFault}
use Rattle.exb_ecp.specs.declared.stop_and_wait.Beat.{Beat as Due}
use Rattle.exb_ecp.specs.declared.stop_and_wait.Beat.TheVariants as due
use Rattle.exb_ecp.specs.Frames.{pdu_in, spelling}
use Rattle.exb_ecp.specs.StopAndWait.{Sending, acknowledged, is_fresh, beat_of}
use Rattle.exb_ecp.specs.StopAndWait.{heard as received}
use Rattle.exb_csp.specs.declared.fault.CspFault.{CspFault}
use Rattle.exb_csp.specs.declared.message.Body.{Body}
use Rattle.exb_csp.specs.declared.message.Body.TheVariants as body
use Rattle.exb_csp.specs.declared.message.Message.{Message}
use Rattle.exb_csp.specs.Decoding.{read_message}
use Rattle.exb_csp.specs.Encoding.{message_bytes}
use Rattle.exb_csp.specs.Execution.{ExtenderTables}
use Rattle.exb_csp.specs.declared.session.answerer.Due.{Due as Turn}
use Rattle.exb_csp.specs.declared.session.answerer.Due.TheVariants as turn
use Rattle.exb_csp.specs.Sessions.AnsweringEnd.{AnswererState, arrived, stored_message}
use Rattle.exb_extender.specs.declared.sends.Side.{Side}
use Rattle.exb_extender.specs.declared.sends.Side.TheVariants as side
use Rattle.exb_extender.specs.Forwarding.{Sent, up, forwarding_of, channel_tag, is_bare_control, names_channel, is_ignored, emitted}
use Rattle.exb_extender.specs.Forwarding.{sent_at as sent_down_at}
use Rattle.exb_extender.specs.Machine.{ExtenderState, Arrives, Beats, react, control_pdu, submits, answers, executes, by_turn, takes_body, takes_message, announces, next_count, address_of, beats as beats_far}
use Rattle.exb_extender.specs.Machine.{hears_request as far_request, hears_pdu as far_pdu, hears as far_hears, sends_again as far_again}
use Rattle.exb_link.specs.declared.link_frame.Stamp.{Stamp}
use Rattle.exb_link.specs.declared.link_frame.LinkFrame.{LinkFrame}
use Rattle.exb_link.specs.LinkFrames.{is_control, is_data, without_data}
use Rattle.exb_world_spec.specs.Worlds.{World, Way, Up, Down, Step, Carry, Control, Lose, control_word, first_world}
use Rattle.exb_world_spec.specs.ExtenderSteps.{stamp_of}
use Rattle.exb_world_spec.specs.DataFrames.{arrival_by, comes_from, holder_by}
use Rattle.exb_world_spec.specs.Steps.{words_on, with_words, takes_up, takes_any, done_by, stepped}
use Rattle.exb_world_spec.specs.Settling.{run}
use Rattle.exb_world_spec.specs.Runs.Sessions.{Each}
use Rattle.exb_world_spec.specs.Runs.Stamps.{IsStamped, AreStamped, DataIsStamped, IsOfPort, CarriesTellOnce}
use Rattle.exb_world_spec.proofs.BridgeSteps.{comes_events}
use Rattle.exb_world_spec.proofs.StepEvents.{data_is}
use Rattle.exb_world_spec.proofs.LinkFrames.{each_append, each_range, each_without_data, each_without_control, each_filter, each_get, at_same}
use Rattle.exb_world_spec.proofs.Acts.{Act, Above, Below, Station, FarBeat, Ask, Acknowledge, NearBeat, IsIn, IsTaken, IsLeft, Why, each_in}
use Rattle.exb_world_spec.proofs.Deeds.{Deed, Send, Words, deed, Reacting, reacting, IsFrameFor, GoesDown, IsSent, Reacted, Controlled, Relayed, Because, step_deeds}
use Rattle.exb_world_spec.proofs.StepParts.{pushed}

-- ---- the destination of control frames
stripped_control : (f : List ℕ) → is_control_frame f ≡ true → is_control_frame (stripped f) ≡ true
unfolding is_control_frame
stripped_control (a ∷ b ∷ c ∷ d ∷ e ∷ g ∷ f) is = is
stripped_control (a ∷ b ∷ c ∷ d ∷ e ∷ []) is = is
stripped_control (a ∷ b ∷ c ∷ d ∷ []) is = is
stripped_control (a ∷ b ∷ c ∷ []) is = is
stripped_control (a ∷ b ∷ []) is = is
stripped_control (a ∷ []) is = is
stripped_control [] is = is

and_none : (b x : Bool) → x ≡ false → (b && x) ≡ false
and_none true x e = e
and_none false x e = refl

pub tagged_control : (f : List ℕ) (tag : Tag) → is_control_frame f ≡ true → is_control_frame (tagged f tag) ≡ true
unfolding is_control_frame
tagged_control (a ∷ b ∷ c ∷ d ∷ e ∷ g ∷ f) tag is = is
tagged_control (a ∷ b ∷ c ∷ d ∷ e ∷ []) tag is = absurd (false≢true (sym (and_none (nat_eq 1 a) (nat_eq 128 b && (nat_eq 194 c && (nat_eq 0 d && (nat_eq 0 e && false)))) (and_none (nat_eq 128 b) (nat_eq 194 c && (nat_eq 0 d && (nat_eq 0 e && false))) (and_none (nat_eq 194 c) (nat_eq 0 d && (nat_eq 0 e && false)) (and_none (nat_eq 0 d) (nat_eq 0 e && false) (and_none (nat_eq 0 e) (false) refl))))) ∙ is))
tagged_control (a ∷ b ∷ c ∷ d ∷ []) tag is = absurd (false≢true (sym (and_none (nat_eq 1 a) (nat_eq 128 b && (nat_eq 194 c && (nat_eq 0 d && false))) (and_none (nat_eq 128 b) (nat_eq 194 c && (nat_eq 0 d && false)) (and_none (nat_eq 194 c) (nat_eq 0 d && false) (and_none (nat_eq 0 d) (false) refl)))) ∙ is))
tagged_control (a ∷ b ∷ c ∷ []) tag is = absurd (false≢true (sym (and_none (nat_eq 1 a) (nat_eq 128 b && (nat_eq 194 c && false)) (and_none (nat_eq 128 b) (nat_eq 194 c && false) (and_none (nat_eq 194 c) (false) refl))) ∙ is))
tagged_control (a ∷ b ∷ []) tag is = absurd (false≢true (sym (and_none (nat_eq 1 a) (nat_eq 128 b && false) (and_none (nat_eq 128 b) (false) refl)) ∙ is))
tagged_control (a ∷ []) tag is = absurd (false≢true (sym (and_none (nat_eq 1 a) (false) refl) ∙ is))
tagged_control [] tag is = absurd (false≢true (sym refl ∙ is))

spelled_control : (a b c d e f : ℕ) (ack : Bool) (sequence : ℕ) (payload : List ℕ) → is_control_frame (spelling (record { 0 = a ∷ b ∷ c ∷ d ∷ e ∷ f ∷ [] }) (control_pdu ack sequence) payload) ≡ true
unfolding is_control_frame
spelled_control a b c d e f ack sequence payload = refl

-- ---- what extenders send of control frames
abbrev pub IsControl : Sent → Type 0
IsControl x = is_control_frame x.bytes ≡ true

own_control : (number : ℕ) (ack : Bool) (sequence : ℕ) (payload : List ℕ) → is_control_frame (spelling (address_of number) (control_pdu ack sequence) payload) ≡ true
own_control number ack sequence payload = spelled_control 2 69 66 1 0 number ack sequence payload

submits_control : (o : Option Message) (s : ExtenderState) → Each IsControl (submits o s).1
submits_control None s = tt
submits_control (Some m) s = (own_control s.number false s.ecp.next (message_bytes m), tt)

answers_control : (s : ExtenderState) → Each IsControl (answers s).1
answers_control s = submits_control (stored_message s.session) s

body_control : (serial : ℕ) (b : Body) (s : ExtenderState) → Each IsControl (takes_body serial b s).1
body_control serial (body.Ask asked) s = by_due (arrived s.session serial asked).0 (arrived s.session serial asked).1
  where
    by_due : (session : AnswererState) (x : Turn) → Each IsControl (by_turn session x s).1
    by_due session (turn.Execute r) = answers_control (executes session r s)
    by_due session turn.Again = answers_control s
    by_due session turn.Ignore = tt
body_control serial (body.Answer response) s = tt

message_control : (r : Result Message CspFault) (s : ExtenderState) → Each IsControl (takes_message r s).1
message_control (Ok m) s = body_control m.serial m.body s
message_control (Err fault) s = tt

request_control : (sequence : ℕ) (payload : List ℕ) (s : ExtenderState) → Each IsControl (far_request sequence payload s).1
request_control sequence payload s = (own_control s.number true sequence [], by_fresh (is_fresh sequence s.ecp))
  where
    by_fresh : (fresh : Bool) → Each IsControl (cond fresh (takes_message (read_message payload) (record s { ecp = received sequence s.ecp })) (s, [])).1
    by_fresh true = message_control (read_message payload) (record s { ecp = received sequence s.ecp })
    by_fresh false = tt

pdu_control : (r : Result Pdu EcpFault) (f : List ℕ) (s : ExtenderState) → Each IsControl (far_pdu r f s).1
pdu_control (Err fault) f s = tt
pdu_control (Ok p) f s = by_flags (p.subtype == 2) p.acknowledgement
  where
    by_flags : (a b : Bool) → Each IsControl (cond a (cond b (record s { ecp = acknowledged p.sequence s.ecp }, []) (far_request p.sequence (drop 18 f) s)) (s, [])).1
    by_flags true true = tt
    by_flags true false = request_control p.sequence (drop 18 f) s
    by_flags false b = tt

pub hears_control : (f : List ℕ) (s : ExtenderState) → Each IsControl (far_hears f s).1
unfolding far_hears
hears_control f s = pdu_control (pdu_in f) f s

down_control : (x : ExtenderTables) (f : List ℕ) → is_control_frame f ≡ true → Each IsControl (emitted x side.Up f)
unfolding emitted emits
down_control x f is = each_range IsControl (sent_down_at x f) 1 x.ports (λ q low high. by_tag q (read_etag f))
  where
    by_flags : (q : ℕ) (a b c : Bool) → Each IsControl (map (λ bytes. record { side = side.Port q; bytes = bytes }) (cond a (cond b [] (cond c (stripped f ∷ []) (f ∷ []))) []))
    by_flags q true true c = tt
    by_flags q true false true = (stripped_control f is, tt)
    by_flags q true false false = (is, tt)
    by_flags q false b c = tt

    by_tag : (q : ℕ) (o : Option Tag) → Each IsControl (map (λ bytes. record { side = side.Port q; bytes = bytes }) (emits_tagged (forwarding_of x) q f o))
    by_tag q None = tt
    by_tag q (Some tag) = by_flags q (takes (forwarding_of x) q tag) (left_out (forwarding_of x) q tag) (bare (forwarding_of x) q tag)

up_control : (x : ExtenderTables) (k : ℕ) (f : List ℕ) → is_control_frame f ≡ true → Each IsControl (emitted x (side.Port k) f)
unfolding emitted
up_control x k f is = by_flags (x.cascade k) (names_channel (read_etag f)) (is_bare_control f && nat_lt 0 (x.own k)) (is_ignored (x.own k) f)
  where
    by_flags : (a b c d : Bool) → Each IsControl (cond a (cond b (up f ∷ []) (cond c (up (tagged f (channel_tag (x.own k))) ∷ []) [])) (cond d [] (up (tagged f (channel_tag (x.own k))) ∷ [])))
    by_flags true true c d = (is, tt)
    by_flags true false true d = (tagged_control f (channel_tag (x.own k)) is, tt)
    by_flags true false false d = tt
    by_flags false b c true = tt
    by_flags false b c false = (tagged_control f (channel_tag (x.own k)) is, tt)

pub reacts_control : (d : Side) (f : List ℕ) (s : ExtenderState) → is_control_frame f ≡ true → Each IsControl (react (Arrives d f) s).1
reacts_control side.Up f s is = by_bare (is_bare_control f)
  where
    by_bare : (b : Bool) → Each IsControl (cond b (far_hears f s) (s, emitted s.tables side.Up f)).1
    by_bare true = hears_control f s
    by_bare false = down_control s.tables f is
reacts_control (side.Port k) f s is = up_control s.tables k f is

pub beats_sent : (s : ExtenderState) → Each IsControl (react Beats s).1
unfolding beats_far is_control_frame announcement
beats_sent s = each_append IsControl (announces (next_count s.beats) s) (far_again (beat_of s.ecp.sending) s.number s.ecp.sending) (by_flag (not s.opened && (next_count s.beats == 1))) (by_due (beat_of s.ecp.sending) s.ecp.sending)
  where
    by_flag : (b : Bool) → Each IsControl (cond b (up (announcement (record { chassis = address_of s.number; ports = s.tables.ports })) ∷ []) [])
    by_flag true = (refl, tt)
    by_flag false = tt

    by_due : (d : Due) (o : Option Sending) → Each IsControl (far_again d s.number o)
    by_due due.SendAgain (Some x) = (own_control s.number false x.sequence x.payload, tt)
    by_due due.SendAgain None = tt
    by_due due.Nothing o = tt
    by_due due.GaveUp o = tt

-- ---- what is put on links
both_ways : (b : Bool) → b ≡ true → b ≡ false → ⊥
both_ways b x y = cc

some_same : {A : Type 0} {x y : A} → Some x ≡ Some y → x ≡ y
some_same e = cc

pushed_stamped : (n : ℕ) (way : Way) (x : LinkFrame) (w : World) → IsStamped x → AreStamped w → AreStamped (pushed n way x w)
pushed_stamped m Down x w fits k = record { downs = at_same (λ n ws. Each IsStamped ws) m (w.down m ++ x ∷ []) w.down (each_append IsStamped (w.down m) (x ∷ []) (k.downs m) (fits, tt)) k.downs; ups = k.ups }
pushed_stamped m Up x w fits k = record { downs = k.downs; ups = at_same (λ n ws. Each IsStamped ws) m (w.up m ++ x ∷ []) w.up (each_append IsStamped (w.up m) (x ∷ []) (k.ups m) (fits, tt)) k.ups }

all_on : (n : ℕ) (way : Way) (w : World) → AreStamped w → Each IsStamped (words_on n way w)
all_on n Up w k = k.ups n
all_on n Down w k = k.downs n

with_stamped : (n : ℕ) (way : Way) (ws : List LinkFrame) (w : World) → Each IsStamped ws → AreStamped w → AreStamped (with_words n way ws w)
with_stamped n Up ws w all k = record { downs = k.downs; ups = at_same (λ m xs. Each IsStamped xs) n ws w.up all k.ups }
with_stamped n Down ws w all k = record { downs = at_same (λ m xs. Each IsStamped xs) n ws w.down all k.downs; ups = k.ups }

-- the word that is taken, and those that stay
taken_stamped : (w : World) → AreStamped w → (step : Step) (n : ℕ) (way : Way) (x : LinkFrame) → IsTaken w step n way x → IsStamped x
taken_stamped w k (Carry m d) n way x is = each_get IsStamped (filter is_data (words_on m d w)) 0 x (each_filter IsStamped is_data (words_on m d w) (all_on m d w k)) is.2
taken_stamped w k (Control m d i keep) n way x is = each_get IsStamped (filter is_control (words_on m d w)) i x (each_filter IsStamped is_control (words_on m d w) (all_on m d w k)) is.2
taken_stamped w k _ n way x is = absurd is

left_stamped : (w : World) → AreStamped w → (step : Step) (n : ℕ) (way : Way) (ws : List LinkFrame) → IsLeft w step n way ws → Each IsStamped ws
left_stamped w k (Carry m d) n way ws is = subst (Each IsStamped) (sym is.2) (each_without_data IsStamped (words_on m d w) (all_on m d w k))
left_stamped w k (Control m d i true) n way ws is = subst (Each IsStamped) (sym is.2) (all_on m d w k)
left_stamped w k (Control m d i false) n way ws is = subst (Each IsStamped) (sym is.2) (each_without_control IsStamped (words_on m d w) i (all_on m d w k))
left_stamped w k (Lose m d i) n way ws is = subst (Each IsStamped) (sym is.2) (each_without_control IsStamped (words_on m d w) i (all_on m d w k))
left_stamped w k _ n way ws is = absurd is

-- what an extender sends of a word has its stamp or is control
of_word : (x y : LinkFrame) (s : Side) (xs : List Sent) → IsStamped x → (is_control x ≡ true → Each IsControl xs) → y.stamp ≡ x.stamp → IsIn (record { side = s; bytes = y.bytes }) xs → IsStamped y
of_word x y s xs fits all same is other =
    elim (cases_Bool (is_control x)) [
      | inl e ↦ absurd (both_ways (is_control_frame y.bytes) (each_in IsControl (record { side = s; bytes = y.bytes }) xs (all e) is) other)
      | inr e ↦ ((fits e).0, same ∙ (fits e).1)
    ]

module _ (t : Shape) (l : Limits) (w : World) (step : Step) (k : AreStamped w) where
  abbrev Fits : Act → World → Reacting → Type 0
  Fits a u r = (y : LinkFrame) (s : Side) → y.stamp ≡ r.stamp → IsIn (record { side = s; bytes = y.bytes }) (react r.input (u.far r.n)).1 → IsStamped y

  reacts_stamped : (a : Act) (u : World) → Why t l (IsTaken w step) w step a u → (r : Reacting) → reacting t a ≡ Some r → Fits a u r
  reacts_stamped (Above n x) u why r is = subst (Fits (Above n x) u) (some_same is) (λ y s. of_word x y s (react (Arrives side.Up x.bytes) (u.far n)).1 (taken_stamped w k step n Down x why) (reacts_control side.Up x.bytes (u.far n)))
  reacts_stamped (Below m x) u why r is = subst (Fits (Below m x) u) (some_same is) (λ y s. of_word x y s (react (Arrives (side.Port (port_number (on t m))) x.bytes) (u.far (device (on t m)))).1 (taken_stamped w k step m Up x why.0) (reacts_control (side.Port (port_number (on t m))) x.bytes (u.far (device (on t m)))))
  reacts_stamped (Station b) u why r is = subst (Fits (Station b) u) (some_same is) (λ y s same in_it other. (stamp_of b, same))
  reacts_stamped (FarBeat n) u why r is = subst (Fits (FarBeat n) u) (some_same is) (λ y s same in_it other. absurd (both_ways (is_control_frame y.bytes) (each_in IsControl (record { side = s; bytes = y.bytes }) (react Beats (u.far n)).1 (beats_sent (u.far n)) in_it) other))
  reacts_stamped _ u why r is = absurd (none_some is)
    where
      none_some : {r : Reacting} → None ≡ Some r → ⊥
      none_some e = cc

  frame_control : (a : Act) (u : World) (n : ℕ) (f : List ℕ) → IsFrameFor a u n f → is_control_frame f ≡ true
  frame_control (Ask by s b) u n f is = subst (λ g. is_control_frame g ≡ true) (sym is.1) (spelled_control 2 69 66 0 0 0 false (u.near n).next (message_bytes b.message))
  frame_control (Acknowledge m sequence) u n f is = subst (λ g. is_control_frame g ≡ true) (sym is.1) (spelled_control 2 69 66 0 0 0 true sequence [])
  frame_control (NearBeat m) u n f is = subst (λ g. is_control_frame g ≡ true) (sym is.1.1.1) (spelled_control 2 69 66 0 0 0 false is.1.0.sequence is.1.0.payload)
  frame_control _ u n f is = absurd is

  control_stamped : (f : List ℕ) (x : LinkFrame) → is_control_frame f ≡ true → x ≡ control_word f → IsStamped x
  control_stamped f x e is = subst IsStamped (sym is) (λ other. absurd (both_ways (is_control_frame f) e other))

  down_stamped : (n m : ℕ) (f : List ℕ) (x : LinkFrame) → is_control_frame f ≡ true → GoesDown t n f m x → IsStamped x
  down_stamped n m f x e (inl is) = control_stamped f x e is.1
  down_stamped n m f x e (inr is) = control_stamped (tagged f (channel_tag is.0)) x (tagged_control f (channel_tag is.0) e) is.1.1

  sent_stamped : (a : Act) (u : World) → Why t l (IsTaken w step) w step a u → (m : ℕ) (way : Way) (x : LinkFrame) → IsSent t a u m way x → IsStamped x
  sent_stamped a u why m way x (Reacted r s is same in_it goes) = reacts_stamped a u why r is x s same in_it
  sent_stamped a u why m way x (Controlled n f is down goes) = down_stamped n m f x (frame_control a u n f is) goes
  sent_stamped a u why m way x (Relayed b is same down) = λ other. (stamp_of b, same)

  deed_stamped : (a : Act) (u : World) → Why t l (IsTaken w step) w step a u → (d : Deed) (v : World) → Because t l a u d v → AreStamped v → AreStamped (deed d v).world
  deed_stamped a u why (Send line m way x) v is all = pushed_stamped m way x v (sent_stamped a u why m way x is) all
  deed_stamped a u why (Words n way ws) v is all = with_stamped n way ws v (left_stamped w k step n way ws (subst (λ c. Why t l (IsTaken w step) w step c u) is why)) all
  deed_stamped a u why _ v is all = record { downs = all.downs; ups = all.ups }

  pub step_stamped : AreStamped (done_by t l step w).world
  step_stamped = step_deeds t l w step (λ v e. AreStamped v → AreStamped e.world) (record { nothing = λ v all. all; joins = λ v e f x y all. y (x all); deeds = deed_stamped }) k

module _ (t : Shape) (l : Limits) where
  next_stamped : (w : World) (step : Step) → AreStamped w → AreStamped (stepped t l step w).world
  unfolding stepped
  next_stamped w step k = step_stamped t l w step k

  run_stamped : (steps : List Step) (w : World) → AreStamped w → AreStamped (run t l steps w).world
  unfolding run
  run_stamped [] w k = k
  run_stamped (step ∷ steps) w k = run_stamped steps (stepped t l step w).world (next_stamped w step k)

pub data_is_stamped : DataIsStamped
data_is_stamped t l b ageing steps = run_stamped t l steps (first_world t l b ageing) (record { downs = λ n. tt; ups = λ n. tt })

-- ---- a word that the bridge takes
carried : (t : Shape) (l : Limits) (n : ℕ) (x : LinkFrame) (s : Stamp) (rest : List LinkFrame) (w : World) → nat_lt (on t n) 64 ≡ true → is_control x ≡ false → x.stamp ≡ Some s → (k : IsOfPort t w n x) →
    (takes_up t l n x (with_words n Up rest w)).events ≡ arrival_event w.control.bridge (arrival_by k.port s (stripped x.bytes)) ∷ []
carried t l n x s rest w low bare stamped k =
    let v : World = with_words n Up rest w in
    let R : Option ℕ → Option Stamp → Type 0 = λ o i. (comes_from t o i (stripped x.bytes) v).events ≡ arrival_event w.control.bridge (arrival_by k.port s (stripped x.bytes)) ∷ [] in
    let here : R (Some k.port) (Some s) = rw k.external (comes_events t v (arrival_by k.port s (stripped x.bytes))) in
    rw (low, bare) (subst (λ (i : Option Stamp). R (holder_by w (on t n) (read_etag x.bytes)) i) (sym stamped) (subst (λ (o : Option ℕ). R o (Some s)) (sym k.held) here))

pub carries_tell_once : CarriesTellOnce
unfolding stepped
carries_tell_once t l w n Down x k low e of = absurd (let z : false ≡ true = low in cc)
carries_tell_once t l w n Up x k low e of =
    let ws : List LinkFrame = w.up n in
    let bare : is_control x ≡ false = data_is ws x e in
    let fits : IsStamped x = each_get IsStamped (filter is_data ws) 0 x (each_filter IsStamped is_data ws (k.ups n)) e in
    let s : Stamp = (fits bare).0 in
    let R : Option LinkFrame → Type 0 = λ o. (takes_any t l n Up o (without_data ws) w).events ≡ arrival_event w.control.bridge (arrival_by of.port s (stripped x.bytes)) ∷ [] in
    record { stamp = s; stamped = (fits bare).1; is = subst R (sym e) (carried t l n x s (without_data ws) w low bare (fits bare).1 of) }
