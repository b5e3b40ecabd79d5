-- What the bridge sends to extenders is told: each control frame that goes down has its line.
use Rattle.std.proofs.Common.{◌≡◌, ℕ, ◌+◌, ◌<◌, ◌==◌, nat_lt, Bool, true, false, List, [], ◌∷◌, drop, Option, Some, None, Ok, Err, refl, ap, sym, ◌∙◌, subst, arith, inl, inr}
use Rattle.std.specs.Prelude.{Result}
use Rattle.std.proofs.lemmas.Bool.{cases_Bool, cases_lt, lt-ltb, le-ltb}
use Rattle.exb_model.specs.declared.event.Event.{Event}
use Rattle.exb_model.specs.Tree.{Shape, HangsOn, IsTree, device, on, is_extender, trunk, port_number}
use Rattle.exb_model.specs.Setup.{Limits, NamesExternal}
use Rattle.exb_model.specs.declared.command.Command.{Command}
use Rattle.exb_model.specs.ETags.{Tag, tagged}
use Rattle.exb_model.proofs.TreeTrunks.{trunk-low}
use Rattle.exb_lldp.specs.declared.announce.Announce.{Announce}
use Rattle.exb_lldp.specs.declared.announce.LldpFault.{LldpFault}
use Rattle.exb_lldp.specs.Announcements.{announced as announcement_in}
use Rattle.exb_ecp.specs.declared.pdu.Pdu.{Pdu}
use Rattle.exb_ecp.specs.declared.pdu.EcpFault.{EcpFault}
use Rattle.exb_ecp.specs.declared.stop_and_wait.Beat.{Beat as Due}
use Rattle.exb_ecp.specs.declared.stop_and_wait.Beat.TheVariants as due
use Rattle.exb_ecp.specs.Frames.{pdu_in, spelling}
use Rattle.exb_ecp.specs.StopAndWait.{Sending, submitted, stopped, acknowledged, is_fresh, beaten, beat_of}
use Rattle.exb_ecp.specs.StopAndWait.{heard as received}
use Rattle.exb_csp.specs.declared.fault.CspFault.{CspFault}
use Rattle.exb_csp.specs.declared.message.Message.{Message}
use Rattle.exb_csp.specs.Decoding.{read_message}
use Rattle.exb_csp.specs.Encoding.{message_bytes}
use Rattle.exb_csp.specs.declared.session.asker.Taken.{Taken}
use Rattle.exb_csp.specs.declared.session.asker.Taken.TheVariants as taken
use Rattle.exb_csp.specs.Sessions.AskingEnd.{took}
use Rattle.exb_extender.specs.Forwarding.{channel_tag}
use Rattle.exb_extender.specs.Machine.{control_pdu}
use Rattle.exb_model.specs.Frames.{is_control_frame}
use Rattle.exb_control_spec.specs.declared.extender_message.Asked.{Asked}
use Rattle.exb_control_spec.specs.Decisions.{decide}
use Rattle.exb_control_spec.specs.Machine.{State, Moved, answered, heard, ordered, beats, still}
use Rattle.exb_control_spec.specs.Runs.Systems.{System, Order, Hear, Stray, Beat}
use Rattle.exb_control_spec.specs.Runs.RequestTargets.{Knows, AreAddressed}
use Rattle.exb_control_spec.proofs.Runs.RequestTargets.{steps_know}
use Rattle.exb_world_spec.specs.Worlds.{World, BridgeOut, with_control, with_table, with_near, control_word}
use Rattle.exb_world_spec.specs.Effects.{Effect, only, each}
use Rattle.exb_world_spec.specs.ExtenderSteps.{hung_on}
use Rattle.exb_world_spec.specs.BridgeLearning.{is_of, channel_at_trunk, forgotten_all}
use Rattle.exb_world_spec.specs.ControlFrames.{bridge_address, bridge_request, bridge_acknowledgement, puts, puts_tagged, to_extender, asks, moves, stops, hears_message, hears_fresh, hears_request, hears_pdu, hears_frame, hears, sends_again, beats_near, beats_control}
use Rattle.exb_world_spec.specs.Runs.Sessions.{Each}
use Rattle.exb_world_spec.proofs.Trunks.{hung_is, extender_there}
use Rattle.exb_world_spec.proofs.LinkFrames.{each_weaker}
use Rattle.exb_model.specs.Traces.{TraceLine}
use Rattle.exb_model.specs.Traces as line
use Rattle.exb_trace_laws.proofs.ControlEvents.{IsPlain, ArePlain, answered_plain, heard_plain, ordered_plain, beats_plain}
use Rattle.exb_trace_laws.proofs.EffectLines.{Tells, tells_then, tells_none, tells_from, tells_each, put_down}

-- ---- frames with the destination of control frames
pub spelled_is_control : (a b c d e f : ℕ) (ack : Bool) (sequence : ℕ) (payload : List ℕ) → is_control_frame (spelling (record { 0 = a ∷ b ∷ c ∷ d ∷ e ∷ f ∷ [] }) (control_pdu ack sequence) payload) ≡ true
unfolding is_control_frame
spelled_is_control a b c d e f ack sequence payload = refl

pub tagged_is_control : (a b c d e f : ℕ) (ack : Bool) (sequence : ℕ) (payload : List ℕ) (tag : Tag) → is_control_frame (tagged (spelling (record { 0 = a ∷ b ∷ c ∷ d ∷ e ∷ f ∷ [] }) (control_pdu ack sequence) payload) tag) ≡ true
unfolding is_control_frame
tagged_is_control a b c d e f ack sequence payload tag = refl

-- ---- control that stays
pub to_extender_control : (t : Shape) (n : ℕ) (f : List ℕ) (w : World) → (to_extender t n f w).world.control ≡ w.control
to_extender_control t n f w =
    elim (cases_Bool (nat_lt (on t n) 64)) [
      | inl e ↦ rw e refl
      | inr e ↦ rw e (by_parts (hung_on t (trunk t n)) (channel_at_trunk t w.control.held (on t n)))
    ]
  where
    by_parts : (o c : Option ℕ) → (puts_tagged (trunk t n) o c f w).world.control ≡ w.control
    by_parts (Some m) (Some channel) = refl
    by_parts (Some m) None = refl
    by_parts None c = refl

-- the machine of changes beside no tables
abbrev with_state : State → System
with_state s = record { state = s; tables = λ n. Rattle.exb_csp.specs.PortMasks.powered_on 0; answer = None }

module _ (t : Shape) (tree : IsTree t) (C : TraceLine → Type 0) (D : Event → Type 0)
    (down : (m : ℕ) (f : List ℕ) → is_extender t m ≡ true → on t m < 64 → is_control_frame f ≡ true → C (line.Out 0 (on t m + 1) f)) (plain : (e : Event) → IsPlain e → D e) where
  -- ---- a frame to an extender
  puts_tells : (k m : ℕ) (f : List ℕ) (w : World) → HangsOn t m k → k < 64 → is_control_frame f ≡ true → Tells t C D w (puts k m f w)
  puts_tells k m f w h low control =
      let there : is_extender t m ≡ true = extender_there t m k h in
      let is_low : on t m < 64 = omega (arith, h.at) in
      let d : 0 ≡ device (on t m) = omega arith in
      let p : k + 1 ≡ port_number (on t m) = omega (arith, h.at) in
      let is : line.Out 0 (k + 1) f ≡ line.Out (device (on t m)) (port_number (on t m)) f = ap (λ (i : ℕ). line.Out i (k + 1) f) d ∙ ap (λ (j : ℕ). line.Out (device (on t m)) j f) p in
      let same : on t m + 1 ≡ k + 1 = omega (arith, h.at) in
      put_down t C D tree m (control_word f) (BridgeOut (k + 1) f) w there is (subst (λ (j : ℕ). C (line.Out 0 j f)) same (down m f there is_low control))

  idle : (w : World) → Tells t C D w (only w)
  idle w = tells_none t C D w (only w) refl refl refl refl refl tt refl

  tagged_tells : (k : ℕ) (o c : Option ℕ) (f : List ℕ) (w : World) → hung_on t k ≡ o → k < 64 → ((tag : Tag) → is_control_frame (tagged f tag) ≡ true) → Tells t C D w (puts_tagged k o c f w)
  tagged_tells k (Some m) (Some channel) f w e low control = puts_tells k m (tagged f (channel_tag channel)) w (hung_is t k m e) low (control (channel_tag channel))
  tagged_tells k (Some m) None f w e low control = idle w
  tagged_tells k None c f w e low control = idle w

  pub to_extender_tells : (n : ℕ) (f : List ℕ) (w : World) → is_extender t n ≡ true → is_control_frame f ≡ true → ((tag : Tag) → is_control_frame (tagged f tag) ≡ true) → Tells t C D w (to_extender t n f w)
  to_extender_tells n f w there control tag_control =
      elim (cases_lt (on t n) 64) [
        | inl low ↦ rw (lt-ltb (on t n) 64 low) (puts_tells (on t n) n f w (Rattle.exb_world_spec.proofs.Trunks.hangs_there t n there) low control)
        | inr deep ↦ rw (le-ltb (on t n) 64 deep) (tagged_tells (trunk t n) (hung_on t (trunk t n)) (channel_at_trunk t w.control.held (on t n)) f w refl (trunk-low t tree n there) tag_control)
      ]

  spelled_tells : (n : ℕ) (ack : Bool) (sequence : ℕ) (payload : List ℕ) (w : World) → is_extender t n ≡ true → Tells t C D w (to_extender t n (spelling bridge_address (control_pdu ack sequence) payload) w)
  spelled_tells n ack sequence payload w there =
      to_extender_tells n (spelling bridge_address (control_pdu ack sequence) payload) w there (spelled_is_control 2 69 66 0 0 0 ack sequence payload) (tagged_is_control 2 69 66 0 0 0 ack sequence payload)

  -- ---- requests
  asks_tells : (a : Asked) (w : World) → is_extender t a.extender ≡ true → Tells t C D w (asks t a w)
  asks_tells a w there =
      let n : ℕ = a.extender in
      let v : World = with_near n (submitted (message_bytes a.message) (stopped (w.near n))) w in
      tells_from t C D w v (asks t a w) refl refl refl refl (spelled_tells n false (w.near n).next (message_bytes a.message) v there)

  all_addressed : (xs : List Asked) → AreAddressed t xs → Each (λ (a : Asked). is_extender t a.extender ≡ true) xs
  all_addressed [] k = tt
  all_addressed (a ∷ xs) k = (k.0, all_addressed xs k.1)

  -- a step of the machine of changes
  pub moves_tells : (m : Moved) (w : World) → AreAddressed t m.asks → ArePlain m → Tells t C D w (moves t m w)
  moves_tells m w addressed its =
      let v : World = with_table (forgotten_all m.downs w.table) (with_control m.state w) in
      let e : Effect = record (only v) { events = m.events } in
      tells_then t C D w e (each (asks t) m.asks) (tells_none t C D w e refl refl refl refl refl (each_weaker IsPlain D m.events plain its) refl)
      (tells_each t C D (λ (a : Asked). is_extender t a.extender ≡ true) (λ u. Unit {0}) (asks t) m.asks v (λ a u there s. (asks_tells a u there, tt)) tt (all_addressed m.asks addressed))

  -- ---- what is heard
  module _ (l : Limits) where
    stops_same : (x : Taken) (n : ℕ) (w : World) → (m : Moved) → AreAddressed t m.asks → ArePlain m → Tells t C D w (moves t m (stops x n w))
    stops_same (taken.Answer response) n w m addressed its = tells_from t C D w (with_near n (stopped (w.near n)) w) (moves t m (with_near n (stopped (w.near n)) w)) refl refl refl refl (moves_tells m (with_near n (stopped (w.near n)) w) addressed its)
    stops_same taken.Stale n w m addressed its = moves_tells m w addressed its
    stops_same taken.NotOurs n w m addressed its = moves_tells m w addressed its

    message_tells : (n : ℕ) (r : Result Message CspFault) (w : World) → Knows t w.control → Tells t C D w (hears_message t l n r w)
    message_tells n (Err fault) w knows = idle w
    message_tells n (Ok m) w knows =
        stops_same (took (w.control.askers n) m).1 n w (answered (decide t l) n m w.control) (steps_know t l (with_state w.control) (Stray n m) knows tt).1 (answered_plain (decide t l) n m w.control)

    fresh_tells : (n : ℕ) (fresh : Bool) (sequence : ℕ) (payload : List ℕ) (w : World) → Knows t w.control → Tells t C D w (hears_fresh t l n fresh sequence payload w)
    fresh_tells n true sequence payload w knows =
        let v : World = with_near n (received sequence (w.near n)) w in
        tells_from t C D w v (hears_message t l n (read_message payload) v) refl refl refl refl (message_tells n (read_message payload) v knows)
    fresh_tells n false sequence payload w knows = idle w

    request_tells : (n sequence : ℕ) (payload : List ℕ) (w : World) → is_extender t n ≡ true → Knows t w.control → Tells t C D w (hears_request t l n sequence payload w)
    request_tells n sequence payload w there knows =
        let first : Effect = to_extender t n (bridge_acknowledgement sequence) w in
        let still_knows : Knows t first.world.control = subst (λ (s : State). Knows t s) (sym (to_extender_control t n (bridge_acknowledgement sequence) w)) knows in
        tells_then t C D w first (λ v. hears_fresh t l n (is_fresh sequence (v.near n)) sequence payload v) (spelled_tells n true sequence [] w there)
        (fresh_tells n (is_fresh sequence (first.world.near n)) sequence payload first.world still_knows)

    pdu_tells : (n : ℕ) (r : Result Pdu EcpFault) (f : List ℕ) (w : World) → is_extender t n ≡ true → Knows t w.control → Tells t C D w (hears_pdu t l n r f w)
    pdu_tells n (Err fault) f w there knows = idle w
    pdu_tells n (Ok p) f w there knows =
        elim (cases_Bool (p.subtype == 2)) [
          | inr other ↦ rw other (idle w)
          | inl ours ↦ elim (cases_Bool p.acknowledgement) [
            | inl ack ↦ rw (ours, ack) (let e : Effect = only (with_near n (acknowledged p.sequence (w.near n)) w) in tells_none t C D w e refl refl refl refl refl tt refl)
            | inr ask ↦ rw (ours, ask) (request_tells n p.sequence (drop 18 f) w there knows)
          ]
        ]

    frame_tells : (n : ℕ) (r : Result Announce LldpFault) (f : List ℕ) (w : World) → is_extender t n ≡ true → Knows t w.control → Tells t C D w (hears_frame t l n r f w)
    frame_tells n (Ok a) f w there knows =
        elim (cases_Bool (is_of t n a)) [
          | inl ours ↦ rw ours (moves_tells (heard (decide t l) n w.control) w (steps_know t l (with_state w.control) (Hear n) knows tt).1 (heard_plain (decide t l) n w.control))
          | inr other ↦ rw other (moves_tells (still w.control) w tt tt)
        ]
    frame_tells n (Err fault) f w there knows = pdu_tells n (pdu_in f) f w there knows

    pub hears_tells : (n : ℕ) (f : List ℕ) (w : World) → is_extender t n ≡ true → Knows t w.control → Tells t C D w (hears t l n f w)
    unfolding hears
    hears_tells n f w there knows = frame_tells n (announcement_in f) f w there knows

    -- a command
    pub ordered_tells : (c : Command) (w : World) → NamesExternal t c → Knows t w.control → Tells t C D w (moves t (ordered (decide t l) c w.control) w)
    ordered_tells c w names knows = moves_tells (ordered (decide t l) c w.control) w (steps_know t l (with_state w.control) (Order c) knows names).1 (ordered_plain (decide t l) c w.control)

    -- ---- beats
    pub control_tells : (w : World) → Knows t w.control → Tells t C D w (beats_control t w)
    control_tells w knows = moves_tells (beats w.control) w (steps_know t l (with_state w.control) Beat knows tt).1 (beats_plain w.control)

  again_tells : (n : ℕ) (d : Due) (o : Option Sending) (w : World) → is_extender t n ≡ true → Tells t C D w (sends_again t n d o w)
  again_tells n due.SendAgain (Some x) w there = spelled_tells n false x.sequence x.payload w there
  again_tells n due.SendAgain None w there = idle w
  again_tells n due.Nothing o w there = idle w
  again_tells n due.GaveUp o w there = idle w

  pub near_tells : (n : ℕ) (w : World) → is_extender t n ≡ true → Tells t C D w (beats_near t n w)
  near_tells n w there =
      let v : World = with_near n (beaten (w.near n)) w in
      tells_from t C D w v (beats_near t n w) refl refl refl refl (again_tells n (beat_of (w.near n).sending) (w.near n).sending v there)

-- the control stays at the beats of the bridge's ends
again_control : (t : Shape) (n : ℕ) (d : Due) (o : Option Sending) (w : World) → (sends_again t n d o w).world.control ≡ w.control
again_control t n due.SendAgain (Some x) w = to_extender_control t n (bridge_request x.sequence x.payload) w
again_control t n due.SendAgain None w = refl
again_control t n due.Nothing o w = refl
again_control t n due.GaveUp o w = refl

pub near_control : (t : Shape) (n : ℕ) (w : World) → (beats_near t n w).world.control ≡ w.control
near_control t n w = again_control t n (beat_of (w.near n).sending) (w.near n).sending (with_near n (beaten (w.near n)) w)
