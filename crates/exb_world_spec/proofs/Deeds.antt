-- Acts as deeds, each of which changes one thing: what holds of each deed holds of the acts.
use Rattle.std.proofs.Common.{◌≡◌, ℕ, ◌-◌, ◌+◌, nat_lt, ◌⊎◌, Bool, List, [], ◌∷◌, Option, Some, None, refl, sym, subst, inl, inr}
use Rattle.std.proofs.lemmas.Bool.{cases_Bool}
use Rattle.exb_model.specs.Tree.{Shape, on, trunk, device, port_number}
use Rattle.exb_model.specs.Setup.{Limits}
use Rattle.exb_model.specs.ETags.{tagged}
use Rattle.exb_model.specs.Frames.{egress}
use Rattle.exb_model.specs.Learning.{passes}
use Rattle.exb_model.specs.EagerHistory.{is_relayed, arrival_event}
use Rattle.exb_model.specs.declared.arrival.Arrival.{Arrival}
use Rattle.exb_model.specs.declared.event.Event.{Event}
use Rattle.exb_model.specs.declared.event.Event.TheVariants as event
use Rattle.exb_frame.specs.TagValues.{tag_of}
use Rattle.exb_frame.specs.declared.etag.ETag.{ETag}
use Rattle.exb_csp.specs.AllTables.{port_of}
use Rattle.exb_csp.specs.Encoding.{message_bytes}
use Rattle.exb_ecp.specs.declared.stop_and_wait.Beat.{Beat as Due}
use Rattle.exb_ecp.specs.declared.stop_and_wait.Beat.TheVariants as due
use Rattle.exb_ecp.specs.StopAndWait.{State as Ecp, Sending, submitted, stopped, beaten, beat_of}
use Rattle.exb_extender.specs.declared.sends.Side.{Side}
use Rattle.exb_extender.specs.declared.sends.Side.TheVariants as side
use Rattle.exb_extender.specs.Forwarding.{Sent, channel_tag}
use Rattle.exb_extender.specs.Machine.{ExtenderState, Reaction, Input, Arrives, Beats, react}
use Rattle.exb_link.specs.declared.link_frame.Stamp.{Stamp}
use Rattle.exb_link.specs.declared.link_frame.LinkFrame.{LinkFrame}
use Rattle.exb_learn.specs.Calls.{Table, Tick as Ticks, after_call}
use Rattle.exb_relay.specs.declared.send.SendTo.{SendTo}
use Rattle.exb_control_spec.specs.Machine.{State, Moved}
use Rattle.exb_world_spec.specs.Worlds.{World, Way, Up, Down, Step, Left, Line, Out, BridgeOut, with_near, with_far, with_control, with_table, push_up, push_down, control_word, moment_of, next_beat}
use Rattle.exb_world_spec.specs.Effects.{Effect, only, sending, leaving, joined, each}
use Rattle.exb_world_spec.specs.ExtenderSteps.{hung_on, sent_at, sent_to, sends, does, stamp_of, does_or_ignores}
use Rattle.exb_world_spec.specs.BridgeLearning.{channel_at_trunk, forgotten_all, taught}
use Rattle.exb_world_spec.specs.ControlFrames.{bridge_request, bridge_acknowledgement, puts_tagged, to_extender, sends_again}
use Rattle.exb_world_spec.specs.DataFrames.{puts_word, sent_by, sends_in, sends_all, sends_for, passed_by}
use Rattle.exb_world_spec.specs.Steps.{with_words, counted, done_by}
use Rattle.exb_world_spec.proofs.StepParts.{pushed}
use Rattle.exb_world_spec.proofs.Acts.{Act, Above, Below, Station, Ignore, FarBeat, Come, Move, Ask, Acknowledge, NearBeat, Hear, Remove, Count, CountBeat, Pass, Settle, Mover, heard_as, moved, act, IsIn, Takes, IsTaken, Why, Acts, step_acts}

-- ---- deeds
pub data Deed : Type 0 where
  Near : (n : ℕ) (e : Ecp) → Deed
  Far : (n : ℕ) (s : ExtenderState) → Deed
  Learn : (u : Table) → Deed
  Change : (s : State) → Deed
  Tell : (es : List Event) (passed : List Bool) → Deed
  Send : (line : Line) (n : ℕ) (way : Way) (x : LinkFrame) → Deed
  Leave : (line : Line) (x : Left) → Deed
  Words : (n : ℕ) (way : Way) (ws : List LinkFrame) → Deed
  Next : (a : Arrival) → Deed
  CountsBeat : Deed

abbrev pub deed : Deed → World → Effect
deed (Near n e) w = only (with_near n e w)
deed (Far n s) w = only (with_far n s w)
deed (Learn u) w = only (with_table u w)
deed (Change s) w = only (with_control s w)
deed (Tell es passed) w = record (only w) { events = es; passed = passed }
deed (Send line n way x) w = sending line (pushed n way x w)
deed (Leave line x) w = leaving line x w
deed (Words n way ws) w = only (with_words n way ws w)
deed (Next a) w = only (counted a w)
deed CountsBeat w = only (record w { beats = next_beat w.beats })

-- ---- why a deed is done: u is the world as its act begins, v that as the deed is done
-- an extender acts: which one, with which stamp, on what
pub record Reacting : Type 0 where
  pub n : ℕ
  pub stamp : Option Stamp
  pub input : Input

abbrev pub reacting : Shape → Act → Option Reacting
reacting t (Above n x) = Some (record { n = n; stamp = x.stamp; input = Arrives side.Up x.bytes })
reacting t (Below m x) = Some (record { n = device (on t m); stamp = x.stamp; input = Arrives (side.Port (port_number (on t m))) x.bytes })
reacting t (Station a) = Some (record { n = device a.port; stamp = Some (stamp_of a); input = Arrives (side.Port (port_number a.port)) a.bytes })
reacting t (FarBeat n) = Some (record { n = n; stamp = None; input = Beats })
reacting t _ = None

-- where an extender's frame goes
abbrev pub GoesOn : Shape → ℕ → Side → ℕ → Way → Type 0
GoesOn t n side.Up m way = (way ≡ Up) × (m ≡ n)
GoesOn t n (side.Port q) m way = (way ≡ Down) × (hung_on t (port_of n q) ≡ Some m)

-- the control frame that the bridge sends to an extender
abbrev pub IsFrameFor : Act → World → ℕ → List ℕ → Type 0
IsFrameFor (Ask by s b) u n f = (n ≡ b.extender) × (f ≡ bridge_request (u.near n).next (message_bytes b.message))
IsFrameFor (Acknowledge m sequence) u n f = (n ≡ m) × (f ≡ bridge_acknowledgement sequence)
IsFrameFor (NearBeat m) u n f = (n ≡ m) × ((x : Sending) × (((u.near n).sending ≡ Some x) × (f ≡ bridge_request x.sequence x.payload)))
IsFrameFor _ u n f = ⊥

-- it goes down as it is where the extender hangs on the bridge, and else with an E-TAG
abbrev pub GoesDown : Shape → ℕ → List ℕ → ℕ → LinkFrame → Type 0
GoesDown t n f m x = ((m ≡ n) × (x ≡ control_word f)) ⊎ ((channel : ℕ) × ((hung_on t (trunk t n) ≡ Some m) × (x ≡ control_word (tagged f (channel_tag channel)))))

pub data IsSent (t : Shape) (a : Act) (u : World) (m : ℕ) (way : Way) (x : LinkFrame) : Type 0 where
  Reacted : (r : Reacting) (s : Side) → reacting t a ≡ Some r → x.stamp ≡ r.stamp → IsIn (record { side = s; bytes = x.bytes }) (react r.input (u.far r.n)).1 → GoesOn t r.n s m way → IsSent t a u m way x
  Controlled : (n : ℕ) (f : List ℕ) → IsFrameFor a u n f → way ≡ Down → GoesDown t n f m x → IsSent t a u m way x
  Relayed : (b : Arrival) → a ≡ Come b → x.stamp ≡ Some (stamp_of b) → way ≡ Down → IsSent t a u m way x

abbrev pub IsLearned : Shape → Limits → Act → World → Table → Table → Type 0
IsLearned t l (Come b) u old new = new ≡ taught u.control.bridge b old
IsLearned t l (Move by) u old new = new ≡ forgotten_all (moved t l by u.control).downs old
IsLearned t l (Pass seconds) u old new = new ≡ after_call (Ticks seconds) old
IsLearned t l _ u old new = ⊥

abbrev pub IsTold : Shape → Limits → Act → World → List Event → List Bool → Type 0
IsTold t l (Come b) u es passed = (es ≡ arrival_event u.control.bridge b ∷ []) × (passed ≡ passed_by (is_relayed u.control.bridge b.port b.bytes) (passes u.control.bridge b.port b.bytes))
IsTold t l (Move by) u es passed = (es ≡ (moved t l by u.control).events) × (passed ≡ [])
IsTold t l (Pass seconds) u es passed = (es ≡ event.Tick seconds ∷ []) × (passed ≡ [])
IsTold t l Settle u es passed = (es ≡ event.Settled ∷ []) × (passed ≡ [])
IsTold t l (Ignore b) u es passed = (es ≡ event.Ignored b.port b.index ∷ []) × (passed ≡ [])
IsTold t l (Station b) u es passed = (es ≡ event.Ignored b.port b.index ∷ []) × (passed ≡ [])
IsTold t l _ u es passed = ⊥

abbrev pub IsNear : Act → World → ℕ → Ecp → Type 0
IsNear (Ask by s b) u n e = (n ≡ b.extender) × (e ≡ submitted (message_bytes b.message) (stopped (u.near n)))
IsNear (NearBeat m) u n e = (n ≡ m) × (e ≡ beaten (u.near n))
IsNear (Hear m h) u n e = (n ≡ m) × (e ≡ heard_as h (u.near n))
IsNear _ u n e = ⊥

abbrev pub Because : Shape → Limits → Act → World → Deed → World → Type 0
Because t l a u (Near n e) v = IsNear a u n e
Because t l a u (Far n s) v = (r : Reacting) × ((reacting t a ≡ Some r) × ((n ≡ r.n) × (s ≡ (react r.input (u.far r.n)).0)))
Because t l a u (Learn x) v = IsLearned t l a u v.table x
Because t l a u (Change s) v = (by : Mover) × ((a ≡ Move by) × (s ≡ (moved t l by u.control).state))
Because t l a u (Tell es passed) v = IsTold t l a u es passed
Because t l a u (Send line m way x) v = IsSent t a u m way x
Because t l a u (Leave line x) v = Unit {0}
Because t l a u (Words n way ws) v = a ≡ Remove n way ws
Because t l a u (Next b) v = a ≡ Count b
Because t l a u CountsBeat v = (a ≡ CountBeat) × (v ≡ u)

-- ---- what holds of each deed of an act holds of the act
module _ (t : Shape) (l : Limits) (a : Act) (u : World) (R : World → Effect → Type 0) (nothing : (v : World) → R v (only v)) (joins : (v : World) (e f : Effect) → R v e → R e.world f → R v (joined e f)) (one : (d : Deed) (v : World) → Because t l a u d v → R v (deed d v)) where
  each_deed : {A : Type 0} (f : A → World → Effect) (all xs : List A) → ((x : A) → IsIn x xs → IsIn x all) → ((x : A) → IsIn x all → (v : World) → R v (f x v)) → (v : World) → R v (each f xs v)
  each_deed f all [] within each_one v = nothing v
  each_deed f all (x ∷ xs) within each_one v =
      joins v (f x v) (each f xs (f x v).world) (each_one x (within x (inl refl)) v) (each_deed f all xs (λ y is. within y (inr is)) each_one (f x v).world)

  -- an extender acts
  sends_deed : (r : Reacting) → reacting t a ≡ Some r → (x : Sent) → IsIn x (react r.input (u.far r.n)).1 → (v : World) → R v (sends t r.n r.stamp x v)
  sends_deed r is x within v = by_side x.side refl
    where
      word : LinkFrame
      word = record { bytes = x.bytes; stamp = r.stamp }

      by_port : (q : ℕ) (o : Option ℕ) → x.side ≡ side.Port q → hung_on t (port_of r.n q) ≡ o → R v (sent_at r.n q o r.stamp x.bytes v)
      by_port q (Some m) e h = one (Send (Out r.n (side.Port q) x.bytes) m Down word) v (Reacted r (side.Port q) is refl (subst (λ (s : Side). IsIn (record { side = s; bytes = x.bytes }) (react r.input (u.far r.n)).1) e within) (refl, h))
      by_port q None e h = one (Leave (Out r.n (side.Port q) x.bytes) (record { port = port_of r.n q; moment = moment_of r.stamp; bytes = x.bytes })) v tt

      by_side : (s : Side) → x.side ≡ s → R v (sent_to t r.n r.stamp s x.bytes v)
      by_side side.Up e = one (Send (Out r.n side.Up x.bytes) r.n Up word) v (Reacted r side.Up is refl (subst (λ (s : Side). IsIn (record { side = s; bytes = x.bytes }) (react r.input (u.far r.n)).1) e within) (refl, refl))
      by_side (side.Port q) e = by_port q (hung_on t (port_of r.n q)) e refl

  does_deeds : (r : Reacting) → reacting t a ≡ Some r → R u (does t r.n r.stamp (react r.input (u.far r.n)) u)
  does_deeds r is =
      let x : Reaction = react r.input (u.far r.n) in
      let v : World = with_far r.n x.0 u in
      joins u (only v) (each (sends t r.n r.stamp) x.1 v) (one (Far r.n x.0) u (r, (is, (refl, refl)))) (each_deed (sends t r.n r.stamp) x.1 x.1 (λ y k. k) (sends_deed r is) v)

  station_deeds : (b : Arrival) → a ≡ Station b → (r : Reaction) → react (Arrives (side.Port (port_number b.port)) b.bytes) (u.far (device b.port)) ≡ r → R u (does_or_ignores t b r u)
  station_deeds b e (s, []) is = one (Tell (event.Ignored b.port b.index ∷ []) []) u (subst (λ (c : Act). IsTold t l c u (event.Ignored b.port b.index ∷ []) []) (sym e) (refl, refl))
  station_deeds b e (s, x ∷ xs) is =
      let r : Reacting = record { n = device b.port; stamp = Some (stamp_of b); input = Arrives (side.Port (port_number b.port)) b.bytes } in
      subst (λ (c : Reaction). R u (does t r.n r.stamp c u)) is (does_deeds r (subst (λ (c : Act). reacting t c ≡ Some r) (sym e) refl))

  -- the bridge sends a control frame
  to_deeds : (n : ℕ) (f : List ℕ) (v : World) → IsFrameFor a u n f → R v (to_extender t n f v)
  to_deeds n f v why =
      elim (cases_Bool (nat_lt (on t n) 64)) [
        | inl e ↦ rw e (one (Send (BridgeOut (on t n + 1) f) n Down (control_word f)) v (Controlled n f why refl (inl (refl, refl))))
        | inr e ↦ rw e (by_options (hung_on t (trunk t n)) (channel_at_trunk t v.control.held (on t n)) refl)
      ]
    where
      by_options : (o c : Option ℕ) → hung_on t (trunk t n) ≡ o → R v (puts_tagged (trunk t n) o c f v)
      by_options (Some m) (Some channel) h =
          let g : List ℕ = tagged f (channel_tag channel) in
          one (Send (BridgeOut (trunk t n + 1) g) m Down (control_word g)) v (Controlled n f why refl (inr (channel, (h, refl))))
      by_options (Some m) None h = nothing v
      by_options None c h = nothing v

  -- the bridge relays
  relays_deed : (b : Arrival) → a ≡ Come b → (vid : ℕ) (x : SendTo) (v : World) → R v (sends_in t b vid x v)
  relays_deed b e vid x v = by_tag x.tag
    where
      by_hung : (o : Option ℕ) (y : LinkFrame) → y.stamp ≡ Some (stamp_of b) → R v (puts_word x.bridge_port o y v)
      by_hung None y s = nothing v
      by_hung (Some m) y s = one (Send (BridgeOut x.bridge_port y.bytes) m Down y) v (Relayed b e s refl)

      by_tag : (o : Option ETag) → R v (sent_by t b (egress b.bytes x.kind vid) x.bridge_port o v)
      by_tag None = one (Leave (BridgeOut x.bridge_port (egress b.bytes x.kind vid)) (record { port = x.bridge_port - 1; moment = b.moment; bytes = egress b.bytes x.kind vid })) v tt
      by_tag (Some tag) = by_hung (hung_on t (x.bridge_port - 1)) (record { bytes = tagged (egress b.bytes x.kind vid) (tag_of tag); stamp = Some (stamp_of b) }) refl

  relays_deeds : (b : Arrival) → a ≡ Come b → (xs : List SendTo) (o : Option ℕ) (v : World) → R v (sends_all t b xs o v)
  relays_deeds b e xs None v = nothing v
  relays_deeds b e xs (Some vid) v = each_deed (sends_in t b vid) xs xs (λ y k. k) (λ x k z. relays_deed b e vid x z) v

pub act_deeds : (t : Shape) (l : Limits) (a : Act) (u : World) (R : World → Effect → Type 0) → ((v : World) → R v (only v)) → ((v : World) (e f : Effect) → R v e → R e.world f → R v (joined e f)) → ((d : Deed) (v : World) → Because t l a u d v → R v (deed d v)) → R u (act t l a u)
act_deeds t l (Above n x) u R nothing joins one = does_deeds t l (Above n x) u R nothing joins one _ refl
act_deeds t l (Below m x) u R nothing joins one = does_deeds t l (Below m x) u R nothing joins one _ refl
act_deeds t l (Station b) u R nothing joins one = station_deeds t l (Station b) u R nothing joins one b refl _ refl
act_deeds t l (FarBeat n) u R nothing joins one = does_deeds t l (FarBeat n) u R nothing joins one _ refl
act_deeds t l (Ignore b) u R nothing joins one = one (Tell (event.Ignored b.port b.index ∷ []) []) u (refl, refl)
act_deeds t l (Come b) u R nothing joins one =
    let v : World = with_table (taught u.control.bridge b u.table) u in
    let es : List Event = arrival_event u.control.bridge b ∷ [] in
    let ps : List Bool = passed_by (is_relayed u.control.bridge b.port b.bytes) (passes u.control.bridge b.port b.bytes) in
    joins u (joined (only v) (deed (Tell es ps) v)) (sends_all t b (sends_for t u b) (passes u.control.bridge b.port b.bytes) v)
    (joins u (only v) (deed (Tell es ps) v) (one (Learn (taught u.control.bridge b u.table)) u refl) (one (Tell es ps) v (refl, refl)))
    (relays_deeds t l (Come b) u R nothing joins one b refl (sends_for t u b) (passes u.control.bridge b.port b.bytes) v)
act_deeds t l (Move by) u R nothing joins one =
    let m : Moved = moved t l by u.control in
    let v : World = with_control m.state u in
    let z : World = with_table (forgotten_all m.downs u.table) v in
    joins u (joined (only v) (only z)) (deed (Tell m.events []) z) (joins u (only v) (only z) (one (Change m.state) u (by, (refl, refl))) (one (Learn (forgotten_all m.downs u.table)) v refl)) (one (Tell m.events []) z (refl, refl))
act_deeds t l (Ask by s b) u R nothing joins one =
    let e : Ecp = submitted (message_bytes b.message) (stopped (u.near b.extender)) in
    let v : World = with_near b.extender e u in
    let f : List ℕ = bridge_request (u.near b.extender).next (message_bytes b.message) in
    joins u (only v) (to_extender t b.extender f v) (one (Near b.extender e) u (refl, refl)) (to_deeds t l (Ask by s b) u R nothing joins one b.extender f v (refl, refl))
act_deeds t l (Acknowledge n sequence) u R nothing joins one = to_deeds t l (Acknowledge n sequence) u R nothing joins one n (bridge_acknowledgement sequence) u (refl, refl)
act_deeds t l (NearBeat n) u R nothing joins one =
    let v : World = with_near n (beaten (u.near n)) u in
    joins u (only v) (sends_again t n (beat_of (u.near n).sending) (u.near n).sending v) (one (Near n (beaten (u.near n))) u (refl, refl)) (by_due v (beat_of (u.near n).sending) (u.near n).sending refl)
  where
    by_due : (v : World) (d : Due) (o : Option Sending) → (u.near n).sending ≡ o → R v (sends_again t n d o v)
    by_due v due.SendAgain (Some x) e = to_deeds t l (NearBeat n) u R nothing joins one n (bridge_request x.sequence x.payload) v (refl, (x, (e, refl)))
    by_due v due.SendAgain None e = nothing v
    by_due v due.Nothing o e = nothing v
    by_due v due.GaveUp o e = nothing v
act_deeds t l (Hear n h) u R nothing joins one = one (Near n (heard_as h (u.near n))) u (refl, refl)
act_deeds t l (Remove n way ws) u R nothing joins one = one (Words n way ws) u refl
act_deeds t l (Count b) u R nothing joins one = one (Next b) u refl
act_deeds t l CountBeat u R nothing joins one = one CountsBeat u (refl, refl)
act_deeds t l (Pass seconds) u R nothing joins one =
    let v : World = with_table (after_call (Ticks seconds) u.table) u in
    joins u (only v) (deed (Tell (event.Tick seconds ∷ []) []) v) (one (Learn (after_call (Ticks seconds) u.table)) u refl) (one (Tell (event.Tick seconds ∷ []) []) v (refl, refl))
act_deeds t l Settle u R nothing joins one = one (Tell (event.Settled ∷ []) []) u (refl, refl)

-- ---- and of the step
pub record Deeds (t : Shape) (l : Limits) (T : Takes) (w : World) (step : Step) (R : World → Effect → Type 0) : Type 0 where
  pub nothing : (v : World) → R v (only v)
  pub joins : (v : World) (e f : Effect) → R v e → R e.world f → R v (joined e f)
  pub deeds : (a : Act) (u : World) → Why t l T w step a u → (d : Deed) (v : World) → Because t l a u d v → R v (deed d v)

pub by_deeds : (t : Shape) (l : Limits) (T : Takes) (w : World) (step : Step) (R : World → Effect → Type 0) → Deeds t l T w step R → Acts t l T w step R
by_deeds t l T w step R k = record { nothing = k.nothing; joins = k.joins; acts = λ a u why. act_deeds t l a u R k.nothing k.joins (k.deeds a u why) }

pub step_deeds : (t : Shape) (l : Limits) (w : World) (step : Step) (R : World → Effect → Type 0) → Deeds t l (IsTaken w step) w step R → R w (done_by t l step w)
step_deeds t l w step R k = step_acts t l w step R (by_deeds t l (IsTaken w step) w step R k)
