-- What a step on a link does to the control: nothing, or something that was planned is done.
use Rattle.std.proofs.Common.{◌≡◌, ◌≢◌, ◌⊎◌, inl, inr, ⊎_elim, ℕ, ◌-◌, ◌≤◌, ◌<◌, ◌==◌, ◌||◌, nat_lt, Bool, true, false, cond, List, [], ◌∷◌, drop, Option, Some, None, Ok, Err, refl, ap, sym, ◌∙◌, subst, arith}
use Rattle.std.specs.Prelude.{Result}
use Rattle.std.proofs.lemmas.Bool.{cases_Bool, cases_eq, eq-eqb, ne_eqb}
use mathlib.Core.Path.{fun_ext}
use Rattle.exb_model.specs.Tree.{Shape, IsTree, on, device, trunk, is_external, is_extender, port_number}
use Rattle.exb_model.specs.Setup.{Limits}
use Rattle.exb_model.specs.declared.arrival.Arrival.{Arrival}
use Rattle.exb_model.specs.ETags.{read_etag, stripped}
use Rattle.exb_model.specs.Learning.{passes}
use Rattle.exb_model.proofs.TreeTrunks.{extender-low}
use Rattle.exb_frame.specs.declared.etag.ETag.{ETag}
use Rattle.exb_lldp.specs.declared.announce.Announce.{Announce}
use Rattle.exb_lldp.specs.declared.announce.LldpFault.{LldpFault}
use Rattle.exb_lldp.specs.Announcements.{announced as announcement_in}
use Rattle.exb_ecp.specs.declared.pdu.Pdu.{Pdu}
use Rattle.exb_ecp.specs.declared.pdu.EcpFault.{EcpFault}
use Rattle.exb_ecp.specs.declared.stop_and_wait.Beat.{Beat as Due}
use Rattle.exb_ecp.specs.declared.stop_and_wait.Beat.TheVariants as due
use Rattle.exb_ecp.specs.Frames.{pdu_in}
use Rattle.exb_ecp.specs.StopAndWait.{Sending, is_fresh, submitted, stopped, beat_of, beaten}
use Rattle.exb_ecp.specs.StopAndWait.{heard as received}
use Rattle.exb_csp.specs.declared.fault.CspFault.{CspFault}
use Rattle.exb_csp.specs.declared.message.Message.{Message}
use Rattle.exb_csp.specs.declared.message.Response.{Response}
use Rattle.exb_csp.specs.Decoding.{read_message}
use Rattle.exb_csp.specs.Encoding.{message_bytes}
use Rattle.exb_csp.specs.declared.session.asker.Taken.{Taken}
use Rattle.exb_csp.specs.declared.session.asker.Taken.TheVariants as taken
use Rattle.exb_csp.specs.Sessions.AskingEnd.{took}
use Rattle.exb_extender.specs.declared.sends.Side.{Side}
use Rattle.exb_extender.specs.declared.sends.Side.TheVariants as side
use Rattle.exb_csp.specs.AllTables.{port_of}
use Rattle.exb_extender.specs.Forwarding.{has_etag_type}
use Rattle.exb_extender.specs.Machine.{Input, Arrives, Beats, react, Reaction}
use Rattle.exb_link.specs.declared.link_frame.Stamp.{Stamp}
use Rattle.exb_link.specs.declared.link_frame.LinkFrame.{LinkFrame}
use Rattle.exb_link.specs.LinkFrames.{is_control, without_data, without_control}
use Rattle.exb_relay.specs.declared.send.SendTo.{SendTo}
use Rattle.exb_control_spec.specs.declared.extender_message.Asked.{Asked}
use Rattle.exb_control_spec.specs.declared.job.Job.{Job}
use Rattle.exb_control_spec.specs.declared.job.Job.TheVariants as job
use Rattle.exb_control_spec.specs.Decisions.{decide}
use Rattle.exb_control_spec.specs.PlannedExchanges.{planned}
use Rattle.exb_control_spec.specs.Machine.{State, Work, Moved, still, heard, goes_on, wakes_by, answered, beats, beats_in}
use Rattle.exb_control_spec.specs.Runs.MachineInvariant.{OneWaits}
use Rattle.exb_control_spec.proofs.Runs.ExchangeCounts.{answers_count, hearing_counts, others_leave_counts}
use Rattle.exb_control_spec.proofs.Runs.AskerAnswers.{stray_is_still}
use Rattle.exb_world_spec.specs.Worlds.{World, Way, Up, Down, Step, Beat, with_far, with_near, next_beat}
use Rattle.exb_world_spec.specs.Effects.{Effect, only, each}
use Rattle.exb_world_spec.specs.BridgeLearning.{announced, is_of, channel_at_trunk}
use Rattle.exb_world_spec.specs.ExtenderSteps.{hung_on, sent_at, sent_to, sends, reacts, takes_from_below, does}
use Rattle.exb_world_spec.specs.ControlFrames.{puts_tagged, to_extender, asks, moves, stops, hears_message, hears_fresh, hears_request, hears_pdu, hears_frame, hears, sends_again, beats_near, bridge_request, bridge_acknowledgement}
use Rattle.exb_world_spec.specs.DataFrames.{puts_word, sent_by, sends_in, sends_all, sends_for, comes, arrival_by, comes_from, holder_by, hung_at, hears_from, takes_control, bridge_takes}
use Rattle.exb_world_spec.specs.Steps.{takes, takes_any, first_data, control_at, rest_of, words_on, with_words, stepped, if_there, all_extenders, beats_all}
use Rattle.exb_world_spec.specs.AllowedSteps.{Can}
use Rattle.exb_world_spec.specs.Settling.{planned_in, round, through_all, directions}
use Rattle.exb_world_spec.proofs.Trunks.{hung_is, extender_there}
use Rattle.exb_settling_laws.specs.SettlingFacts.{Facts, QueueFacts, OnLink, carries, delivers, loses, Moves, IsInvariant}
use Rattle.exb_settling_laws.proofs.RoundSteps.{all_keep, directions_there}
use Rattle.exb_settling_laws.proofs.VerdictCosts.{passed, pass_round}
use Rattle.exb_model.specs.declared.setup.Verdict.{Verdict}

-- ---- what turns need of a world
pub record Calm (t : Shape) (w : World) : Type 0 where
  pub waits : OneWaits w.control
  pub queue : QueueFacts t w w.control.work w.control.queue

pub calm_in : (t : Shape) (l : Limits) (w : World) → Facts t l w → Calm t w
calm_in t l w f = record { waits = f.waits; queue = f.queue }

queue_kept : (t : Shape) (n : ℕ) (way : Way) (ws : List LinkFrame) (w : World) (o : Option Work) (js : List Job) → QueueFacts t w o js → QueueFacts t (with_words n way ws w) o js
queue_kept t n Up ws w (Some k) js q = q
queue_kept t n Up ws w None [] q = q
queue_kept t n Up ws w None (job.Opening m ∷ js) q = q
queue_kept t n Up ws w None (job.AutomaticUp p ∷ js) q = q
queue_kept t n Up ws w None (job.Ordered m c ∷ js) q = q
queue_kept t n Down ws w (Some k) js q = q
queue_kept t n Down ws w None [] q = q
queue_kept t n Down ws w None (job.Opening m ∷ js) q = q
queue_kept t n Down ws w None (job.AutomaticUp p ∷ js) q = q
queue_kept t n Down ws w None (job.Ordered m c ∷ js) q = q

control_kept : (n : ℕ) (way : Way) (ws : List LinkFrame) (w : World) → (with_words n way ws w).control ≡ w.control
control_kept n Up ws w = refl
control_kept n Down ws w = refl

pub calm_kept : (t : Shape) (n : ℕ) (way : Way) (ws : List LinkFrame) (w : World) → Calm t w → Calm t (with_words n way ws w)
calm_kept t n Up ws w c = record { waits = c.waits; queue = queue_kept t n Up ws w w.control.work w.control.queue c.queue }
calm_kept t n Down ws w c = record { waits = c.waits; queue = queue_kept t n Down ws w w.control.work w.control.queue c.queue }

-- ---- what leaves the control as it is
pub record SameEnds (w v : World) : Type 0 where
  pub control : v.control ≡ w.control
  pub near : v.near ≡ w.near

pub same_ends : (w : World) → SameEnds w w
same_ends w = record { control = refl; near = refl }

pub ends_then : (a b c : World) → SameEnds a b → SameEnds b c → SameEnds a c
ends_then a b c x y = record { control = y.control ∙ x.control; near = y.near ∙ x.near }

each_ends : {A : Type 0} (f : A → World → Effect) (xs : List A) (w : World) → ((x : A) (v : World) → SameEnds v (f x v).world) → SameEnds w (each f xs w).world
each_ends f [] w g = same_ends w
each_ends f (x ∷ xs) w g = ends_then w (f x w).world (each f xs (f x w).world).world (g x w) (each_ends f xs (f x w).world g)

module _ (t : Shape) where
  sent_at_ends : (n k : ℕ) (o : Option ℕ) (stamp : Option Stamp) (bytes : List ℕ) (w : World) → SameEnds w (sent_at n k o stamp bytes w).world
  sent_at_ends n k None stamp bytes w = same_ends w
  sent_at_ends n k (Some m) stamp bytes w = record { control = refl; near = refl }

  sent_to_ends : (n : ℕ) (stamp : Option Stamp) (s : Side) (bytes : List ℕ) (w : World) → SameEnds w (sent_to t n stamp s bytes w).world
  sent_to_ends n stamp side.Up bytes w = record { control = refl; near = refl }
  sent_to_ends n stamp (side.Port k) bytes w = sent_at_ends n k (hung_on t (port_of n k)) stamp bytes w

  pub does_ends : (n : ℕ) (stamp : Option Stamp) (r : Reaction) (w : World) → SameEnds w (does t n stamp r w).world
  does_ends n stamp r w =
      let a : SameEnds (with_far n r.0 w) (does t n stamp r w).world = each_ends (sends t n stamp) r.1 (with_far n r.0 w) (λ x v. sent_to_ends n stamp x.side x.bytes v) in
      record { control = a.control; near = a.near }

  pub reacts_ends : (n : ℕ) (stamp : Option Stamp) (i : Input) (w : World) → SameEnds w (reacts t n stamp i w).world
  reacts_ends n stamp i w = does_ends n stamp (react i (w.far n)) w

  puts_tagged_ends : (k : ℕ) (o c : Option ℕ) (f : List ℕ) (w : World) → SameEnds w (puts_tagged k o c f w).world
  puts_tagged_ends k (Some m) (Some channel) f w = record { control = refl; near = refl }
  puts_tagged_ends k (Some m) None f w = same_ends w
  puts_tagged_ends k None c f w = same_ends w

  pub to_extender_ends : (n : ℕ) (f : List ℕ) (w : World) → SameEnds w (to_extender t n f w).world
  to_extender_ends n f w =
      elim (cases_Bool (nat_lt (on t n) 64)) [
        | inl e ↦ rw e (record { control = refl; near = refl })
        | inr e ↦ rw e (puts_tagged_ends (trunk t n) (hung_on t (trunk t n)) (channel_at_trunk t w.control.held (on t n)) f w)
      ]

  puts_word_ends : (port : ℕ) (o : Option ℕ) (x : LinkFrame) (w : World) → SameEnds w (puts_word port o x w).world
  puts_word_ends port None x w = same_ends w
  puts_word_ends port (Some m) x w = record { control = refl; near = refl }

  sent_by_ends : (a : Arrival) (bytes : List ℕ) (port : ℕ) (o : Option ETag) (w : World) → SameEnds w (sent_by t a bytes port o w).world
  sent_by_ends a bytes port None w = same_ends w
  sent_by_ends a bytes port (Some tag) w = puts_word_ends port (hung_on t (port - 1)) _ w

  sends_all_ends : (a : Arrival) (xs : List SendTo) (o : Option ℕ) (w : World) → SameEnds w (sends_all t a xs o w).world
  sends_all_ends a xs None w = same_ends w
  sends_all_ends a xs (Some vid) w = each_ends (sends_in t a vid) xs w (λ x v. sent_by_ends a _ x.bridge_port x.tag v)

  pub comes_ends : (a : Arrival) (w : World) → SameEnds w (comes t a w).world
  comes_ends a w = let k = sends_all_ends a (sends_for t w a) (passes w.control.bridge a.port a.bytes) (Rattle.exb_world_spec.specs.Worlds.with_table (Rattle.exb_world_spec.specs.BridgeLearning.taught w.control.bridge a w.table) w) in record { control = k.control; near = k.near }

  pub comes_from_ends : (o : Option ℕ) (s : Option Stamp) (bytes : List ℕ) (w : World) → SameEnds w (comes_from t o s bytes w).world
  comes_from_ends (Some p) (Some s) bytes w = elim (cases_Bool (is_external t p)) [ inl e ↦ rw e (comes_ends (arrival_by p s bytes) w) | inr e ↦ rw e (same_ends w) ]
  comes_from_ends (Some p) None bytes w = same_ends w
  comes_from_ends None s bytes w = same_ends w

-- ---- turns
module _ (t : Shape) (l : Limits) (tree : IsTree t) where
  abbrev pub Turned : World → World → Type 0
  Turned w v = (v.control ≡ w.control) ⊎ (planned_in t l v < planned_in t l w)

  pub same_planned : (w v : World) → v.control ≡ w.control → planned_in t l v ≡ planned_in t l w
  same_planned w v e = ap (planned t (decide t l)) e

  pub turned_then : (a b c : World) → Turned a b → Turned b c → Turned a c
  turned_then a b c (inl e) (inl f) = inl (f ∙ e)
  turned_then a b c (inl e) (inr m) = let k = same_planned a b e in inr (omega arith)
  turned_then a b c (inr l1) (inl f) = let k = same_planned b c f in inr (omega arith)
  turned_then a b c (inr l1) (inr m) = inr (omega arith)

  pub turned_less : (w v : World) → Turned w v → planned_in t l v ≤ planned_in t l w
  turned_less w v (inl e) = let k = same_planned w v e in omega arith
  turned_less w v (inr m) = omega arith

  -- ---- an extender that was heard already
  heard_same : (n : ℕ) (s : State) → s.heard n ≡ true → ◌≡◌ {A = State} (record s { heard = λ m. m == n || s.heard m }) s
  heard_same n s h = ap (λ (f : ℕ → Bool). record s { heard = f }) (fun_ext (λ m. elim (cases_eq m n) [ inl e ↦ rw (e, eq-eqb n n refl, h) refl | inr e ↦ rw (ne_eqb m n e) refl ]))

  wakes_same : (w : World) (o : Option Work) (js : List Job) → w.control.work ≡ o → w.control.queue ≡ js → QueueFacts t w o js → wakes_by (decide t l) o w.control ≡ still w.control
  unfolding goes_on
  wakes_same w (Some k) js e f q = refl
  wakes_same w None [] e f q =
      let A : List Job → Type 0 = λ xs. goes_on (decide t l) xs w.control ≡ still (record w.control { queue = xs }) in subst A (sym f) refl
  wakes_same w None (job.Opening n ∷ js) e f q =
      let A : List Job → Type 0 = λ xs. goes_on (decide t l) xs w.control ≡ still (record w.control { queue = xs }) in
      let h : w.control.heard n ≡ false = q.1 in
      subst A (sym f) (rw h refl)
  wakes_same w None (job.AutomaticUp p ∷ js) e f q = absurd q
  wakes_same w None (job.Ordered n c ∷ js) e f q = absurd q

  pub heard_again : (w : World) (n : ℕ) → Calm t w → w.control.heard n ≡ true → heard (decide t l) n w.control ≡ still w.control
  heard_again w n f h =
      let same : ◌≡◌ {A = State} (record w.control { heard = λ m. m == n || w.control.heard m }) w.control = heard_same n w.control h in
      ap (λ (s : State). wakes_by (decide t l) s.work s) same ∙ wakes_same w w.control.work w.control.queue refl refl f.queue

  -- ---- what the bridge hears
  -- a step of the machine of changes that leaves it, or does something that was planned
  abbrev pub Turns : State → Moved → Type 0
  Turns s m = (m ≡ still s) ⊎ (planned t (decide t l) m.state < planned t (decide t l) s)

  pub announced_turns : (w : World) (n : ℕ) (a : Announce) → Calm t w → is_extender t n ≡ true → Turns w.control (announced (decide t l) t n a w.control)
  announced_turns w n a f there =
      elim (cases_Bool (is_of t n a)) [
        | inr e ↦ rw e (inl refl)
        | inl e ↦ rw e (
            elim (cases_Bool (w.control.heard n)) [
              | inl h ↦ inl (heard_again w n f h)
              | inr h ↦ (let k = hearing_counts t (decide t l) w.control n there (let low : n < 65 = extender-low t tree n there in omega arith) h in inr (omega arith))
            ])
      ]

  pub cases_taken : (u : Taken) → ((response : Response) × (u ≡ taken.Answer response)) ⊎ ((response : Response) → u ≢ taken.Answer response)
  cases_taken (taken.Answer response) = inl (response, refl)
  cases_taken taken.Stale = inr (λ response e. cc)
  cases_taken taken.NotOurs = inr (λ response e. cc)

  pub answered_turns : (w : World) (n : ℕ) (m : Message) → Calm t w → Turns w.control (answered (decide t l) n m w.control)
  answered_turns w n m f =
      elim (cases_taken (took (w.control.askers n) m).1) [
        | inl y ↦ (let k = answers_count t (decide t l) w.control n m y.0 f.waits y.1 in inr (omega arith))
        | inr other ↦ inl (stray_is_still (decide t l) n m w.control other)
      ]

  asks_control : (a : Asked) (w : World) → (asks t a w).world.control ≡ w.control
  asks_control a w = (to_extender_ends t a.extender (bridge_request (w.near a.extender).next (message_bytes a.message)) (with_near a.extender (submitted (message_bytes a.message) (stopped (w.near a.extender))) w)).control

  each_asks : (xs : List Asked) (w : World) → (each (asks t) xs w).world.control ≡ w.control
  each_asks [] w = refl
  each_asks (a ∷ xs) w = each_asks xs (asks t a w).world ∙ asks_control a w

  pub moves_control : (m : Moved) (w : World) → (moves t m w).world.control ≡ m.state
  moves_control m w = each_asks m.asks _

  moves_turned : (m : Moved) (w v : World) → v.control ≡ w.control → Turns w.control m → Turned w (moves t m v).world
  moves_turned m w v e (inl same) = inl (moves_control m v ∙ ap (λ (x : Moved). x.state) same)
  moves_turned m w v e (inr less) = let k : planned_in t l (moves t m v).world ≡ planned t (decide t l) m.state = ap (planned t (decide t l)) (moves_control m v) in inr (omega arith)

  stops_control : (u : Taken) (n : ℕ) (w : World) → (stops u n w).control ≡ w.control
  stops_control (taken.Answer response) n w = refl
  stops_control taken.Stale n w = refl
  stops_control taken.NotOurs n w = refl

  -- a message in a world that has this one's control
  hears_message_turned : (n : ℕ) (r : Result Message CspFault) (w v : World) → v.control ≡ w.control → Calm t w → Turned w (hears_message t l n r v).world
  hears_message_turned n (Err fault) w v e f = inl e
  hears_message_turned n (Ok m) w v e f =
      let A : State → Type 0 = λ s. Turned w (moves t (answered (decide t l) n m s) (stops (took (s.askers n) m).1 n v)).world in
      subst A (sym e) (moves_turned (answered (decide t l) n m w.control) w (stops (took (w.control.askers n) m).1 n v) (stops_control (took (w.control.askers n) m).1 n v ∙ e) (answered_turns w n m f))

  hears_fresh_turned : (n : ℕ) (b : Bool) (sequence : ℕ) (payload : List ℕ) (w v : World) → v.control ≡ w.control → Calm t w → Turned w (hears_fresh t l n b sequence payload v).world
  hears_fresh_turned n true sequence payload w v e f = hears_message_turned n (read_message payload) w (with_near n (received sequence (v.near n)) v) e f
  hears_fresh_turned n false sequence payload w v e f = inl e

  hears_request_turned : (n sequence : ℕ) (payload : List ℕ) (w : World) → Calm t w → Turned w (hears_request t l n sequence payload w).world
  hears_request_turned n sequence payload w f =
      let v : World = (to_extender t n (bridge_acknowledgement sequence) w).world in
      hears_fresh_turned n (is_fresh sequence ((to_extender t n (bridge_acknowledgement sequence) w).world.near n)) sequence payload w (to_extender t n (bridge_acknowledgement sequence) w).world ((to_extender_ends t n (bridge_acknowledgement sequence) w).control) f

  hears_pdu_turned : (n : ℕ) (r : Result Pdu EcpFault) (f : List ℕ) (w : World) → Calm t w → Turned w (hears_pdu t l n r f w).world
  hears_pdu_turned n (Err fault) f w facts = inl refl
  hears_pdu_turned n (Ok pdu) f w facts =
      elim (cases_Bool (pdu.subtype == 2)) [
        | inr e ↦ rw e (inl refl)
        | inl e ↦ elim (cases_Bool pdu.acknowledgement) [
          | inl a ↦ rw (e, a) (inl refl)
          | inr a ↦ rw (e, a) (hears_request_turned n pdu.sequence (drop 18 f) w facts)
        ]
      ]

  hears_frame_turned : (n : ℕ) (r : Result Announce LldpFault) (f : List ℕ) (w : World) → Calm t w → is_extender t n ≡ true → Turned w (hears_frame t l n r f w).world
  hears_frame_turned n (Ok a) f w facts there = moves_turned (announced (decide t l) t n a w.control) w w refl (announced_turns w n a facts there)
  hears_frame_turned n (Err fault) f w facts there = hears_pdu_turned n (pdu_in f) f w facts

  pub hears_turned : (n : ℕ) (f : List ℕ) (w : World) → Calm t w → is_extender t n ≡ true → Turned w (hears t l n f w).world
  unfolding hears
  hears_turned n f w facts there = hears_frame_turned n (announcement_in f) f w facts there

  hears_from_turned : (o : Option ℕ) (f : List ℕ) (w : World) → Calm t w → ((n : ℕ) → o ≡ Some n → is_extender t n ≡ true) → Turned w (hears_from t l o f w).world
  hears_from_turned None f w facts there = inl refl
  hears_from_turned (Some n) f w facts there = hears_turned n f w facts (there n refl)

  pub hung_at_there : (o : Option ℕ) (n : ℕ) → hung_at t o ≡ Some n → is_extender t n ≡ true
  hung_at_there None n e = absurd (cc)
  hung_at_there (Some p) n e = extender_there t n p (hung_is t p n e)

  either_turned : (b : Bool) (e f : Effect) (w : World) → Turned w e.world → Turned w f.world → Turned w (cond b e f).world
  either_turned true e f w x y = x
  either_turned false e f w x y = y

  bridge_turned : (k m : ℕ) (x : LinkFrame) (w : World) → Calm t w → is_extender t m ≡ true → Turned w (bridge_takes t l k m x w).world
  bridge_turned k m x w facts there =
      either_turned (is_control x) (takes_control t l k m x.bytes w) (comes_from t (holder_by w k (read_etag x.bytes)) x.stamp (stripped x.bytes) w) w
      (either_turned (has_etag_type x.bytes) (hears_from t l (hung_at t (holder_by w k (read_etag x.bytes))) (stripped x.bytes) w) (hears t l m x.bytes w) w
      (hears_from_turned (hung_at t (holder_by w k (read_etag x.bytes))) (stripped x.bytes) w facts (hung_at_there (holder_by w k (read_etag x.bytes)))) (hears_turned m x.bytes w facts there))
      (inl (comes_from_ends t (holder_by w k (read_etag x.bytes)) x.stamp (stripped x.bytes) w).control)

  below_turned : (a k : ℕ) (x : LinkFrame) (w : World) → Turned w (takes_from_below t a k x w).world
  below_turned a k x w = either_turned ((w.far a).tables.cascade k) (reacts t a x.stamp (Arrives (side.Port k) x.bytes) w) (only w) w (inl (reacts_ends t a x.stamp (Arrives (side.Port k) x.bytes) w).control) (inl refl)

  pub takes_turned : (n : ℕ) (way : Way) (x : LinkFrame) (w : World) → Calm t w → is_extender t n ≡ true → Turned w (takes t l n way x w).world
  takes_turned n Up x w facts there =
      either_turned (nat_lt (on t n) 64) (bridge_takes t l (on t n) n x w) (takes_from_below t (device (on t n)) (port_number (on t n)) x w) w
      (bridge_turned (on t n) n x w facts there) (below_turned (device (on t n)) (port_number (on t n)) x w)
  takes_turned n Down x w facts there = inl (reacts_ends t n x.stamp (Arrives side.Up x.bytes) w).control

  -- ---- a step on a link
  pub takes_rest : (n : ℕ) (way : Way) (x : LinkFrame) (rest : List LinkFrame) (w : World) → Calm t w → is_extender t n ≡ true → Turned w (takes t l n way x (with_words n way rest w)).world
  takes_rest n way x rest w c there =
      turned_then w (with_words n way rest w) (takes t l n way x (with_words n way rest w)).world (inl (control_kept n way rest w)) (takes_turned n way x (with_words n way rest w) (calm_kept t n way rest w c) there)

  any_turned : (n : ℕ) (way : Way) (o : Option LinkFrame) (rest : List LinkFrame) (w : World) → Calm t w → is_extender t n ≡ true → Turned w (takes_any t l n way o rest w).world
  any_turned n way None rest w c there = inl refl
  any_turned n way (Some x) rest w c there = takes_rest n way x rest w c there

  pub step_turned : (step : Step) (w : World) → OnLink step → Can t w step → Calm t w → Turned w (stepped t l step w).world
  unfolding stepped
  step_turned _ w (carries n way) can c = any_turned n way (first_data (words_on n way w)) (without_data (words_on n way w)) w c can.0
  step_turned _ w (delivers n way k keep) can c = any_turned n way (control_at (words_on n way w) k) (rest_of keep (words_on n way w) k) w c can.0
  step_turned _ w (loses n way k) can c = inl (control_kept n way (without_control (words_on n way w) k) w)

  -- ---- all directions
  pub turned_moves : (I : World → Type 0) → IsInvariant t l I → (w : World) → Moves t l (λ v. I v × Turned w v)
  turned_moves I inv w = record { steps = λ step v r can j. (inv.moves.steps step v r can j.0, turned_then w v (stepped t l step v).world j.1 (step_turned step v r can (calm_in t l v (inv.facts v j.0)))) }

  -- ---- a beat
  sends_again_ends : (n : ℕ) (d : Due) (o : Option Sending) (w : World) → (sends_again t n d o w).world.control ≡ w.control
  sends_again_ends n due.SendAgain (Some x) w = (to_extender_ends t n (bridge_request x.sequence x.payload) w).control
  sends_again_ends n due.SendAgain None w = refl
  sends_again_ends n due.Nothing o w = refl
  sends_again_ends n due.GaveUp o w = refl

  beats_near_control : (n : ℕ) (w : World) → (beats_near t n w).world.control ≡ w.control
  beats_near_control n w = sends_again_ends n (beat_of (w.near n).sending) (w.near n).sending (with_near n (beaten (w.near n)) w)

  if_there_control : (f : ℕ → World → Effect) (n : ℕ) (w : World) → ((m : ℕ) (v : World) → (f m v).world.control ≡ v.control) → (if_there t f n w).world.control ≡ w.control
  if_there_control f n w same = by_there (is_extender t n)
    where
      by_there : (b : Bool) → (cond b (f n w) (only w)).world.control ≡ w.control
      by_there true = same n w
      by_there false = refl

  each_control : (f : ℕ → World → Effect) (ns : List ℕ) (w : World) → ((m : ℕ) (v : World) → (f m v).world.control ≡ v.control) → (each (if_there t f) ns w).world.control ≡ w.control
  each_control f [] w same = refl
  each_control f (n ∷ ns) w same = each_control f ns (if_there t f n w).world same ∙ if_there_control f n w same

  pub beat_control : (w : World) → (stepped t l Beat w).world.control ≡ (beats w.control).state
  unfolding stepped beats_all
  beat_control w =
      let a : World = (each (if_there t (beats_near t)) all_extenders (record w { beats = next_beat w.beats })).world in
      let first : (each (if_there t (beats_near t)) all_extenders (record w { beats = next_beat w.beats })).world.control ≡ w.control = each_control (beats_near t) all_extenders (record w { beats = next_beat w.beats }) beats_near_control in
      let b : World = (moves t (beats (each (if_there t (beats_near t)) all_extenders (record w { beats = next_beat w.beats })).world.control) (each (if_there t (beats_near t)) all_extenders (record w { beats = next_beat w.beats })).world).world in
      let last : (each (if_there t (λ n. reacts t n None Beats)) all_extenders (moves t (beats (each (if_there t (beats_near t)) all_extenders (record w { beats = next_beat w.beats })).world.control) (each (if_there t (beats_near t)) all_extenders (record w { beats = next_beat w.beats })).world).world).world.control
      ≡ (moves t (beats (each (if_there t (beats_near t)) all_extenders (record w { beats = next_beat w.beats })).world.control) (each (if_there t (beats_near t)) all_extenders (record w { beats = next_beat w.beats })).world).world.control =
      each_control (λ n. reacts t n None Beats) all_extenders b (λ m v. (reacts_ends t m None Beats v).control) in
      last ∙ moves_control (beats a.control) a ∙ ap (λ (s : State). (beats s).state) first

  pub beat_planned : (w : World) → planned_in t l (stepped t l Beat w).world ≡ planned_in t l w
  beat_planned w = ap (planned t (decide t l)) (beat_control w) ∙ (others_leave_counts t (decide t l) w.control).1

-- ---- a round
module _ (t : Shape) (l : Limits) (tree : IsTree t) (I : World → Type 0) (inv : IsInvariant t l I) where
  pub all_turned : (w : World) (vs : List Verdict) → I w → I (through_all t l (directions t) w vs).done.world × Turned t l tree w (through_all t l (directions t) w vs).done.world
  all_turned w vs i = all_keep t l (λ v. I v × Turned t l tree w v) (turned_moves t l tree I inv w) (directions t) (directions_there t) w vs (i, inl refl)

  pub round_planned : (w : World) (vs : List Verdict) → I w → planned_in t l (round t l w vs).done.world ≤ planned_in t l w
  unfolding round
  round_planned w vs i =
      let a = all_turned w vs i in
      let low : planned_in t l (through_all t l (directions t) w vs).done.world ≤ planned_in t l w = turned_less t l tree w (through_all t l (directions t) w vs).done.world a.1 in
      let same : planned_in t l (stepped t l Beat (through_all t l (directions t) w vs).done.world).world ≡ planned_in t l (through_all t l (directions t) w vs).done.world = beat_planned t l tree (through_all t l (directions t) w vs).done.world in
      omega arith

  -- where nothing is done of what is planned the control is as it was until the beat
  pub until_beat : (w : World) → I w → planned_in t l (pass_round t l w) ≡ planned_in t l w → (passed t l (directions t) w).control ≡ w.control
  until_beat w i same =
      let beat : planned_in t l (pass_round t l w) ≡ planned_in t l (passed t l (directions t) w) = beat_planned t l tree (passed t l (directions t) w) in
      ⊎_elim (λ (e : (passed t l (directions t) w).control ≡ w.control). e) (λ (m : planned_in t l (passed t l (directions t) w) < planned_in t l w). absurd (omega arith)) (all_turned w [] i).1

  after_beat : (w : World) → I w → planned_in t l (pass_round t l w) ≡ planned_in t l w → (pass_round t l w).control ≡ (beats w.control).state
  after_beat w i same = beat_control t l tree (passed t l (directions t) w) ∙ ap (λ (s : State). (beats s).state) (until_beat w i same)

  beats_queue : (o : Option Work) (s : State) → (beats_in o s).state.queue ≡ s.queue
  beats_queue None s = refl
  beats_queue (Some k) s = refl

  beats_work : (o : Option Work) (s : State) → (beats_in o s).state.work ≡ s.work
  beats_work None s = refl
  beats_work (Some k) s = refl

  beats_heard : (o : Option Work) (s : State) → (beats_in o s).state.heard ≡ s.heard
  beats_heard None s = refl
  beats_heard (Some k) s = refl

  pub queue_same : (w : World) → I w → planned_in t l (pass_round t l w) ≡ planned_in t l w → (pass_round t l w).control.queue ≡ w.control.queue
  queue_same w i same = ap (λ (s : State). s.queue) (after_beat w i same) ∙ beats_queue w.control.work w.control

  pub work_same : (w : World) → I w → planned_in t l (pass_round t l w) ≡ planned_in t l w → (pass_round t l w).control.work ≡ w.control.work
  work_same w i same = ap (λ (s : State). s.work) (after_beat w i same) ∙ beats_work w.control.work w.control

  pub heard_is_same : (w : World) → I w → planned_in t l (pass_round t l w) ≡ planned_in t l w → (pass_round t l w).control.heard ≡ w.control.heard
  heard_is_same w i same = ap (λ (s : State). s.heard) (after_beat w i same) ∙ beats_heard w.control.work w.control
