-- A step as acts, one after another; which of them a step has, and why; and that what holds of each act holds of the step.
use Rattle.std.proofs.Common.{◌∙◌, ◌≡◌, ℕ, nat_lt, ◌==◌, ◌⊎◌, Bool, true, false, cond, List, [], ◌∷◌, drop, Option, Some, None, Ok, Err, refl, sym, subst, inl, inr}
use Rattle.std.specs.Prelude.{Result}
use Rattle.std.proofs.lemmas.Bool.{cases_Bool}
use Rattle.exb_model.specs.Tree.{Shape, on, device, is_extender, is_external, port_number}
use Rattle.exb_model.specs.Setup.{Limits}
use Rattle.exb_model.specs.ETags.{read_etag, stripped}
use Rattle.exb_model.specs.declared.arrival.Arrival.{Arrival}
use Rattle.exb_model.specs.declared.command.Command.{Command}
use Rattle.exb_model.specs.declared.event.Event.TheVariants as event
use Rattle.exb_lldp.specs.declared.announce.Announce.{Announce}
use Rattle.exb_lldp.specs.declared.announce.LldpFault.{LldpFault}
use Rattle.exb_lldp.specs.Announcements.{announced as announcement_in}
use Rattle.exb_ecp.specs.declared.pdu.Pdu.{Pdu}
use Rattle.exb_ecp.specs.declared.pdu.EcpFault.{EcpFault}
use Rattle.exb_ecp.specs.Frames.{pdu_in}
use Rattle.exb_ecp.specs.StopAndWait.{State as Ecp, stopped, acknowledged, is_fresh}
use Rattle.exb_ecp.specs.StopAndWait.{heard as received}
use Rattle.exb_csp.specs.declared.fault.CspFault.{CspFault}
use Rattle.exb_csp.specs.declared.message.Message.{Message}
use Rattle.exb_csp.specs.Decoding.{read_message}
use Rattle.exb_csp.specs.declared.session.asker.Taken.{Taken}
use Rattle.exb_csp.specs.declared.session.asker.Taken.TheVariants as taken
use Rattle.exb_csp.specs.Sessions.AskingEnd.{took}
use Rattle.exb_extender.specs.declared.sends.Side.TheVariants as side
use Rattle.exb_extender.specs.Forwarding.{has_etag_type}
use Rattle.exb_extender.specs.Machine.{Arrives, Beats, react}
use Rattle.exb_link.specs.declared.link_frame.Stamp.{Stamp}
use Rattle.exb_link.specs.declared.link_frame.LinkFrame.{LinkFrame}
use Rattle.exb_link.specs.LinkFrames.{is_control, without_data, without_control}
use Rattle.exb_learn.specs.Calls.{Tick as Ticks, after_call}
use Rattle.exb_control_spec.specs.declared.extender_message.Asked.{Asked}
use Rattle.exb_control_spec.specs.Decisions.{decide}
use Rattle.exb_control_spec.specs.Machine.{State, Moved, answered, ordered, beats}
use Rattle.exb_world_spec.specs.Worlds.{World, Way, Up, Down, Step, Arrive, Carry, Control, Lose, Beat, Tick, Order, Mark, with_near, with_control, with_table, next_beat}
use Rattle.exb_world_spec.specs.Effects.{Effect, only, joined, each}
use Rattle.exb_world_spec.specs.ExtenderSteps.{reacts, ignored, does_or_ignores, arrives_at}
use Rattle.exb_world_spec.specs.BridgeLearning.{forgotten_all, announced}
use Rattle.exb_world_spec.specs.ControlFrames.{bridge_acknowledgement, to_extender, asks, moves, stops, hears_message, hears_fresh, hears_request, hears_pdu, hears_frame, hears, beats_near, beats_control}
use Rattle.exb_world_spec.specs.DataFrames.{comes, arrival_by, comes_from, holder_by, hung_at, hears_from, bridge_takes}
use Rattle.exb_world_spec.specs.Steps.{words_on, with_words, takes_any, first_data, control_at, rest_of, counted, if_there, all_extenders, beats_all, done_by}
use Rattle.exb_world_spec.specs.Steps.{takes as takes_word}
use Rattle.exb_world_spec.specs.Runs.Sessions.{Each}
use Rattle.exb_world_spec.proofs.StepParts.{same_control, each_part, there_part, near_part, to_part}

-- ---- acts
-- what moves the machine of changes
pub data Mover : Type 0 where
  Answered : (n : ℕ) (m : Message) → Mover
  Announced : (n : ℕ) (a : Announce) → Mover
  Ordered : (c : Command) → Mover
  Beaten : Mover

abbrev pub moved : Shape → Limits → Mover → State → Moved
moved t l (Answered n m) s = answered (decide t l) n m s
moved t l (Announced n a) s = announced (decide t l) t n a s
moved t l (Ordered c) s = ordered (decide t l) c s
moved t l Beaten s = beats s

-- what the bridge's end with an extender hears
pub data Heard : Type 0 where
  Received : (sequence : ℕ) → Heard
  Acknowledged : (sequence : ℕ) → Heard
  Stopped : Heard

abbrev pub heard_as : Heard → Ecp → Ecp
heard_as (Received sequence) e = received sequence e
heard_as (Acknowledged sequence) e = acknowledged sequence e
heard_as Stopped e = stopped e

pub data Act : Type 0 where
  Above : (n : ℕ) (x : LinkFrame) → Act
  Below : (m : ℕ) (x : LinkFrame) → Act
  Station : (a : Arrival) → Act
  Ignore : (a : Arrival) → Act
  FarBeat : (n : ℕ) → Act
  Come : (a : Arrival) → Act
  Move : (by : Mover) → Act
  Ask : (by : Mover) (s : State) (a : Asked) → Act
  Acknowledge : (n sequence : ℕ) → Act
  NearBeat : (n : ℕ) → Act
  Hear : (n : ℕ) (h : Heard) → Act
  Remove : (n : ℕ) (way : Way) (ws : List LinkFrame) → Act
  Count : (a : Arrival) → Act
  CountBeat : Act
  Pass : (seconds : ℕ) → Act
  Settle : Act

abbrev pub act : Shape → Limits → Act → World → Effect
act t l (Above n x) w = reacts t n x.stamp (Arrives side.Up x.bytes) w
act t l (Below m x) w = reacts t (device (on t m)) x.stamp (Arrives (side.Port (port_number (on t m))) x.bytes) w
act t l (Station a) w = does_or_ignores t a (react (Arrives (side.Port (port_number a.port)) a.bytes) (w.far (device a.port))) w
act t l (Ignore a) w = ignored a w
act t l (FarBeat n) w = reacts t n None Beats w
act t l (Come a) w = comes t a w
act t l (Move by) w = record (only (with_table (forgotten_all (moved t l by w.control).downs w.table) (with_control (moved t l by w.control).state w))) { events = (moved t l by w.control).events }
act t l (Ask by s a) w = asks t a w
act t l (Acknowledge n sequence) w = to_extender t n (bridge_acknowledgement sequence) w
act t l (NearBeat n) w = beats_near t n w
act t l (Hear n h) w = only (with_near n (heard_as h (w.near n)) w)
act t l (Remove n way ws) w = only (with_words n way ws w)
act t l (Count a) w = only (counted a w)
act t l CountBeat w = only (record w { beats = next_beat w.beats })
act t l (Pass seconds) w = record (only (with_table (after_call (Ticks seconds) w.table) w)) { events = event.Tick seconds ∷ [] }
act t l Settle w = record (only w) { events = event.Settled ∷ [] }

-- ---- why an act is done: w is the world as the step begins, v that as the act begins
abbrev pub IsIn : {A : Type 0} → A → List A → Type 0
IsIn x [] = ⊥
IsIn x (y ∷ ys) = (x ≡ y) ⊎ IsIn x ys

abbrev pub IsArrival : Step → Arrival → Type 0
IsArrival (Arrive b) a = b ≡ a
IsArrival _ a = ⊥

abbrev pub IsOrder : Step → Command → Type 0
IsOrder (Order d) c = d ≡ c
IsOrder _ c = ⊥

abbrev pub IsTick : Step → ℕ → Type 0
IsTick (Tick n) seconds = n ≡ seconds
IsTick _ seconds = ⊥

abbrev pub IsBeat : Step → Type 0
IsBeat Beat = Unit {0}
IsBeat _ = ⊥

abbrev pub IsMark : Step → Type 0
IsMark Mark = Unit {0}
IsMark _ = ⊥

-- the word that a step takes
abbrev pub IsTaken : World → Step → ℕ → Way → LinkFrame → Type 0
IsTaken w (Carry n way) m d x = (n ≡ m) × (way ≡ d) × (first_data (words_on n way w) ≡ Some x)
IsTaken w (Control n way k keep) m d x = (n ≡ m) × (way ≡ d) × (control_at (words_on n way w) k ≡ Some x)
IsTaken w _ m d x = ⊥

-- and what stays there
abbrev pub IsLeft : World → Step → ℕ → Way → List LinkFrame → Type 0
IsLeft w (Carry n way) m d ws = (n ≡ m) × (way ≡ d) × (ws ≡ without_data (words_on n way w))
IsLeft w (Control n way k keep) m d ws = (n ≡ m) × (way ≡ d) × (ws ≡ rest_of keep (words_on n way w) k)
IsLeft w (Lose n way k) m d ws = (n ≡ m) × (way ≡ d) × (ws ≡ without_control (words_on n way w) k)
IsLeft w _ m d ws = ⊥

-- which word is taken, and from where, is a parameter: so that one word that is taken is walked through by itself, too
abbrev pub Takes : Type 1
Takes = ℕ → Way → LinkFrame → Type 0

-- it is of the extender on whose link it came, or, with an E-TAG, of that for which a port holds the channel
abbrev pub IsFrameOf : Shape → ℕ → LinkFrame → ℕ → List ℕ → Type 0
IsFrameOf t link x n f = ((has_etag_type x.bytes ≡ false) × (n ≡ link) × (f ≡ x.bytes)) ⊎ ((has_etag_type x.bytes ≡ true) × ((o : Option ℕ) × ((hung_at t o ≡ Some n) × (f ≡ stripped x.bytes))))

-- a control frame f of extender n comes to the bridge
pub record HasHeard (t : Shape) (T : Takes) (n : ℕ) (f : List ℕ) : Type 0 where
  pub link : ℕ
  pub word : LinkFrame
  pub taken : T link Up word
  pub low : nat_lt (on t link) 64 ≡ true
  pub control : is_control word ≡ true
  pub of : IsFrameOf t link word n f

pub record HearsPdu (t : Shape) (T : Takes) (n : ℕ) (p : Pdu) : Type 0 where
  pub frame : List ℕ
  pub heard : HasHeard t T n frame
  pub is : pdu_in frame ≡ Ok p

abbrev pub IsHearing : Shape → Takes → ℕ → Heard → Type 0
IsHearing t T n (Received sequence) = (p : Pdu) × HearsPdu t T n p
IsHearing t T n (Acknowledged sequence) = (p : Pdu) × HearsPdu t T n p
IsHearing t T n Stopped = (p : Pdu) × HearsPdu t T n p

abbrev pub IsMover : Shape → Takes → Step → Mover → Type 0
IsMover t T step (Answered n m) = (p : Pdu) × HearsPdu t T n p
IsMover t T step (Announced n a) = (f : List ℕ) × HasHeard t T n f
IsMover t T step (Ordered c) = IsOrder step c
IsMover t T step Beaten = IsBeat step

-- a frame comes to the bridge with a word
pub record HasCome (t : Shape) (T : Takes) (v : World) (a : Arrival) : Type 0 where
  pub link : ℕ
  pub word : LinkFrame
  pub stamp : Stamp
  pub taken : T link Up word
  pub low : nat_lt (on t link) 64 ≡ true
  pub data_word : is_control word ≡ false
  pub held : holder_by v (on t link) (read_etag word.bytes) ≡ Some a.port
  pub external : is_external t a.port ≡ true
  pub stamped : word.stamp ≡ Some stamp
  pub is : a ≡ arrival_by a.port stamp (stripped word.bytes)

abbrev pub Why : Shape → Limits → Takes → World → Step → Act → World → Type 0
Why t l T w step (Above n x) v = T n Down x
Why t l T w step (Below m x) v = T m Up x × (nat_lt (on t m) 64 ≡ false) × ((v.far (device (on t m))).tables.cascade (port_number (on t m)) ≡ true)
Why t l T w step (Station a) v = IsArrival step a × (nat_lt a.port 64 ≡ false) × ((v.far (device a.port)).tables.cascade (port_number a.port) ≡ false)
Why t l T w step (Ignore a) v = IsArrival step a × (nat_lt a.port 64 ≡ false) × ((v.far (device a.port)).tables.cascade (port_number a.port) ≡ true)
Why t l T w step (FarBeat n) v = IsBeat step × (is_extender t n ≡ true)
Why t l T w step (Come a) v = (IsArrival step a × (nat_lt a.port 64 ≡ true)) ⊎ HasCome t T v a
Why t l T w step (Move by) v = IsMover t T step by × (v.control ≡ w.control)
Why t l T w step (Ask by s a) v = IsMover t T step by × IsIn a (moved t l by s).asks × (s ≡ w.control)
Why t l T w step (Acknowledge n sequence) v = (p : Pdu) × HearsPdu t T n p
Why t l T w step (NearBeat n) v = IsBeat step × (is_extender t n ≡ true)
Why t l T w step (Hear n h) v = IsHearing t T n h
Why t l T w step (Remove n way ws) v = IsLeft w step n way ws
Why t l T w step (Count a) v = IsArrival step a
Why t l T w step CountBeat v = IsBeat step × (v ≡ w)
Why t l T w step (Pass seconds) v = IsTick step seconds
Why t l T w step Settle v = IsMark step

-- what holds of nothing, of one act after another, and of each act
pub record Acts (t : Shape) (l : Limits) (T : Takes) (w : World) (step : Step) (R : World → Effect → Type 0) : Type 0 where
  pub nothing : (v : World) → R v (only v)
  pub joins : (v : World) (e f : Effect) → R v e → R e.world f → R v (joined e f)
  pub acts : (a : Act) (v : World) → Why t l T w step a v → R v (act t l a v)

-- ---- so of the step
pub each_in : {A : Type 0} (P : A → Type 0) (x : A) (xs : List A) → Each P xs → IsIn x xs → P x
each_in P x [] all is = absurd is
each_in P x (y ∷ ys) all (inl e) = subst P (sym e) all.0
each_in P x (y ∷ ys) all (inr k) = each_in P x ys all.1 k

module _ (t : Shape) (l : Limits) (T : Takes) (w0 : World) (step : Step) (R : World → Effect → Type 0) (k : Acts t l T w0 step R) where
  each_act : {A : Type 0} (f : A → World → Effect) (all xs : List A) → ((x : A) → IsIn x xs → IsIn x all) → ((x : A) → IsIn x all → (v : World) → R v (f x v)) → (v : World) → R v (each f xs v)
  each_act f all [] within one v = k.nothing v
  each_act f all (x ∷ xs) within one v =
      k.joins v (f x v) (each f xs (f x v).world) (one x (within x (inl refl)) v) (each_act f all xs (λ y is. within y (inr is)) one (f x v).world)

  pub moves_acts : (by : Mover) (v : World) → IsMover t T step by → v.control ≡ w0.control → R v (moves t (moved t l by v.control) v)
  moves_acts by v why same =
      let m : Moved = moved t l by v.control in
      let u : World = with_table (forgotten_all m.downs v.table) (with_control m.state v) in
      k.joins v (act t l (Move by) v) (each (asks t) m.asks u) (k.acts (Move by) v (why, same))
      (each_act (asks t) m.asks m.asks (λ x is. is) (λ x is z. k.acts (Ask by v.control x) z (why, is, same)) u)

  message_acts : (n : ℕ) (p : Pdu) (r : Result Message CspFault) (v : World) → HearsPdu t T n p → v.control ≡ w0.control → R v (hears_message t l n r v)
  message_acts n p (Err fault) v why same = k.nothing v
  message_acts n p (Ok m) v why same = by_taken (took (v.control.askers n) m).1
    where
      by_taken : (z : Taken) → R v (moves t (answered (decide t l) n m v.control) (stops z n v))
      by_taken (taken.Answer response) =
          let u : World = with_near n (stopped (v.near n)) v in
          k.joins v (only u) (moves t (answered (decide t l) n m v.control) u) (k.acts (Hear n Stopped) v (p, why)) (moves_acts (Answered n m) u (p, why) same)
      by_taken taken.Stale = moves_acts (Answered n m) v (p, why) same
      by_taken taken.NotOurs = moves_acts (Answered n m) v (p, why) same

  fresh_acts : (n : ℕ) (p : Pdu) (fresh : Bool) (sequence : ℕ) (payload : List ℕ) (v : World) → HearsPdu t T n p → v.control ≡ w0.control → R v (hears_fresh t l n fresh sequence payload v)
  fresh_acts n p true sequence payload v why same =
      let u : World = with_near n (received sequence (v.near n)) v in
      k.joins v (only u) (hears_message t l n (read_message payload) u) (k.acts (Hear n (Received sequence)) v (p, why)) (message_acts n p (read_message payload) u why same)
  fresh_acts n p false sequence payload v why same = k.nothing v

  pdu_acts : (n : ℕ) (f : List ℕ) (r : Result Pdu EcpFault) (v : World) → pdu_in f ≡ r → HasHeard t T n f → v.control ≡ w0.control → R v (hears_pdu t l n r f v)
  pdu_acts n f (Err fault) v e why same = k.nothing v
  pdu_acts n f (Ok p) v e why same = by_flags (p.subtype == 2) p.acknowledgement
    where
      heard : HearsPdu t T n p
      heard = record { frame = f; heard = why; is = e }

      by_flags : (a b : Bool) → R v (cond a (cond b (only (with_near n (acknowledged p.sequence (v.near n)) v)) (hears_request t l n p.sequence (drop 18 f) v)) (only v))
      by_flags true true = k.acts (Hear n (Acknowledged p.sequence)) v (p, heard)
      by_flags true false =
          let e1 : Effect = to_extender t n (bridge_acknowledgement p.sequence) v in
          k.joins v e1 (hears_fresh t l n (is_fresh p.sequence (e1.world.near n)) p.sequence (drop 18 f) e1.world) (k.acts (Acknowledge n p.sequence) v (p, heard))
          (fresh_acts n p (is_fresh p.sequence (e1.world.near n)) p.sequence (drop 18 f) e1.world heard (to_part (λ z e. e.world.control ≡ z.control) same_control t n (bridge_acknowledgement p.sequence) v ∙ same))
      by_flags false b = k.nothing v

  pub hears_acts : (n : ℕ) (f : List ℕ) (v : World) → HasHeard t T n f → v.control ≡ w0.control → R v (hears t l n f v)
  unfolding hears
  hears_acts n f v why same = by_result (announcement_in f)
    where
      by_result : (r : Result Announce LldpFault) → R v (hears_frame t l n r f v)
      by_result (Ok a) = moves_acts (Announced n a) v (f, why) same
      by_result (Err fault) = pdu_acts n f (pdu_in f) v refl why same

  from_acts : (link : ℕ) (o : Option ℕ) (f : List ℕ) (v : World) → ((n : ℕ) → o ≡ Some n → HasHeard t T n f) → v.control ≡ w0.control → R v (hears_from t l o f v)
  from_acts link None f v why same = k.nothing v
  from_acts link (Some n) f v why same = hears_acts n f v (why n refl) same

  comes_acts : (n : ℕ) (x : LinkFrame) (o : Option ℕ) (s : Option Stamp) (v : World) → T n Up x → nat_lt (on t n) 64 ≡ true → is_control x ≡ false → holder_by v (on t n) (read_etag x.bytes) ≡ o → x.stamp ≡ s →
      R v (comes_from t o s (stripped x.bytes) v)
  comes_acts n x None s v taken low bare held stamped = k.nothing v
  comes_acts n x (Some p) None v taken low bare held stamped = k.nothing v
  comes_acts n x (Some p) (Some s) v taken low bare held stamped =
      elim (cases_Bool (is_external t p)) [
        | inl e ↦ rw e (k.acts (Come (arrival_by p s (stripped x.bytes))) v (inr (record { link = n; word = x; stamp = s; taken = taken; low = low; data_word = bare; held = held; external = e; stamped = stamped; is = refl })))
        | inr e ↦ rw e (k.nothing v)
      ]

  pub bridge_acts : (n : ℕ) (x : LinkFrame) (v : World) → T n Up x → nat_lt (on t n) 64 ≡ true → v.control ≡ w0.control → R v (bridge_takes t l (on t n) n x v)
  bridge_acts n x v taken low same =
      elim (cases_Bool (is_control x)) [
        | inr bare ↦ rw bare (comes_acts n x (holder_by v (on t n) (read_etag x.bytes)) x.stamp v taken low bare refl refl)
        | inl control ↦ rw control (by_type control (has_etag_type x.bytes) refl)
      ]
    where
      by_type : is_control x ≡ true → (b : Bool) → has_etag_type x.bytes ≡ b → R v (cond b (hears_from t l (hung_at t (holder_by v (on t n) (read_etag x.bytes))) (stripped x.bytes) v) (hears t l n x.bytes v))
      by_type control true e =
          let o : Option ℕ = holder_by v (on t n) (read_etag x.bytes) in
          from_acts n (hung_at t o) (stripped x.bytes) v (λ m h. record { link = n; word = x; taken = taken; low = low; control = control; of = inr (e, (o, (h, refl))) }) same
      by_type control false e = hears_acts n x.bytes v (record { link = n; word = x; taken = taken; low = low; control = control; of = inl (e, refl, refl) }) same

  pub takes_acts : (n : ℕ) (way : Way) (x : LinkFrame) (v : World) → T n way x → v.control ≡ w0.control → R v (takes_word t l n way x v)
  takes_acts n Down x v taken same = k.acts (Above n x) v taken
  takes_acts n Up x v taken same =
      elim (cases_Bool (nat_lt (on t n) 64)) [
        | inl low ↦ rw low (bridge_acts n x v taken low same)
        | inr high ↦ rw high (
            elim (cases_Bool ((v.far (device (on t n))).tables.cascade (port_number (on t n)))) [
              | inl c ↦ rw c (k.acts (Below n x) v (taken, high, c))
              | inr c ↦ rw c (k.nothing v)
            ])
      ]

  control_kept : (n : ℕ) (way : Way) (ws : List LinkFrame) (v : World) → (with_words n way ws v).control ≡ v.control
  control_kept n Up ws v = refl
  control_kept n Down ws v = refl

  any_acts : (n : ℕ) (way : Way) (o : Option LinkFrame) (rest : List LinkFrame) → ((x : LinkFrame) → o ≡ Some x → T n way x) → IsLeft w0 step n way rest → R w0 (takes_any t l n way o rest w0)
  any_acts n way None rest taken left = k.nothing w0
  any_acts n way (Some x) rest taken left =
      let u : World = with_words n way rest w0 in
      k.joins w0 (only u) (takes_word t l n way x u) (k.acts (Remove n way rest) w0 left) (takes_acts n way x u (taken x refl) (control_kept n way rest w0))

  arrives_acts : (a : Arrival) (v : World) → IsArrival step a → nat_lt a.port 64 ≡ false → R v (arrives_at t a v)
  arrives_acts a v why high =
      elim (cases_Bool ((v.far (device a.port)).tables.cascade (port_number a.port))) [
        | inl c ↦ rw c (k.acts (Ignore a) v (why, high, c))
        | inr c ↦ rw c (k.acts (Station a) v (why, high, c))
      ]

  there_acts : (f : ℕ → World → Effect) → ((n : ℕ) → is_extender t n ≡ true → (v : World) → R v (f n v)) → (n : ℕ) (v : World) → R v (if_there t f n v)
  there_acts f one n v = elim (cases_Bool (is_extender t n)) [ inl e ↦ rw e (one n e v) | inr e ↦ rw e (k.nothing v) ]

  -- after the beat was counted
  pub beat_rest : IsBeat step → (u : World) → u.control ≡ w0.control → R u (joined (joined (each (if_there t (beats_near t)) all_extenders u) (beats_control t (each (if_there t (beats_near t)) all_extenders u).world)) (each (if_there t (λ n. reacts t n None Beats)) all_extenders (beats_control t (each (if_there t (beats_near t)) all_extenders u).world).world))
  beat_rest beat u same =
      let near : Effect = each (if_there t (beats_near t)) all_extenders u in
      let middle : Effect = joined near (beats_control t near.world) in
      k.joins u middle (each (if_there t (λ n. reacts t n None Beats)) all_extenders middle.world)
      (k.joins u near (beats_control t near.world) (each_act (if_there t (beats_near t)) all_extenders all_extenders (λ x is. is) (λ n is v. there_acts (beats_near t) (λ m e z. k.acts (NearBeat m) z (beat, e)) n v) u) (moves_acts Beaten near.world beat (each_part (λ z e. e.world.control ≡ z.control) same_control t (if_there t (beats_near t)) (there_part (λ z e. e.world.control ≡ z.control) same_control t (beats_near t) (near_part (λ z e. e.world.control ≡ z.control) same_control t)) all_extenders u ∙ same)))
      (each_act (if_there t (λ n. reacts t n None Beats)) all_extenders all_extenders (λ x is. is) (λ n is v. there_acts (λ m. reacts t m None Beats) (λ m e z. k.acts (FarBeat m) z (beat, e)) n v) middle.world)

  pub beat_acts : IsBeat step → R w0 (beats_all t w0)
  unfolding beats_all
  beat_acts beat =
      let u : World = record w0 { beats = next_beat w0.beats } in
      let near : Effect = each (if_there t (beats_near t)) all_extenders u in
      let middle : Effect = joined near (beats_control t near.world) in
      k.joins w0 (only u) (joined middle (each (if_there t (λ n. reacts t n None Beats)) all_extenders middle.world)) (k.acts CountBeat w0 (beat, refl)) (beat_rest beat u refl)

-- what holds of each act holds of the step
pub step_acts : (t : Shape) (l : Limits) (w : World) (step : Step) (R : World → Effect → Type 0) → Acts t l (IsTaken w step) w step R → R w (done_by t l step w)
step_acts t l w (Arrive a) R k =
    let u : World = counted a w in
    elim (cases_Bool (nat_lt a.port 64)) [
      | inl low ↦ rw low (k.joins w (only u) (comes t a u) (k.acts (Count a) w refl) (k.acts (Come a) u (inl (refl, low))))
      | inr high ↦ rw high (k.joins w (only u) (arrives_at t a u) (k.acts (Count a) w refl) (arrives_acts t l (IsTaken w (Arrive a)) w (Arrive a) R k a u refl high))
    ]
step_acts t l w (Carry n way) R k = any_acts t l (IsTaken w (Carry n way)) w (Carry n way) R k n way (first_data (words_on n way w)) (without_data (words_on n way w)) (λ x e. (refl, refl, e)) (refl, refl, refl)
step_acts t l w (Control n way i keep) R k = any_acts t l (IsTaken w (Control n way i keep)) w (Control n way i keep) R k n way (control_at (words_on n way w) i) (rest_of keep (words_on n way w) i) (λ x e. (refl, refl, e)) (refl, refl, refl)
step_acts t l w (Lose n way i) R k = k.acts (Remove n way (without_control (words_on n way w) i)) w (refl, refl, refl)
step_acts t l w Beat R k = beat_acts t l (IsTaken w Beat) w Beat R k tt
step_acts t l w (Tick seconds) R k = k.acts (Pass seconds) w refl
step_acts t l w (Order c) R k = moves_acts t l (IsTaken w (Order c)) w (Order c) R k (Ordered c) w refl refl
step_acts t l w Mark R k = k.acts Settle w tt
