-- A world that stands goes on standing, whatever is said to have been given, told and to have left: that it is kept after something
-- says all of the world that a step needs.
use Rattle.std.proofs.Common.{◌≡◌, ℕ, ◌+◌, ◌++◌, true, false, List, [], ◌∷◌, length, reverse, Option, Some, None, refl, sym, ◌∙◌, ap, subst, length-append, add-zero}
use Rattle.std.specs.Prelude.{IsSomeAnd, filter_map}
use Rattle.std.specs.List.{range_with_len}
use Rattle.std.proofs.lemmas.List.{append-nil, append_assoc, append_cancel_left}
use Rattle.std.proofs.lemmas.List.Elements.{filter_map-append}
use mathlib.Core.Path.{fun_ext}
use Rattle.exb_model.specs.declared.command.Command.{Command}
use Rattle.exb_model.specs.declared.command.Command.TheVariants as command
use Rattle.exb_model.specs.declared.event.Cause.{Cause}
use Rattle.exb_model.specs.declared.event.Event.{Event}
use Rattle.exb_model.specs.declared.event.Event.TheVariants as event
use Rattle.exb_model.specs.Configuration.{Bridge, after}
use Rattle.exb_model.specs.EagerHistory.{is_relayed}
use Rattle.exb_model.specs.FlatBridge.{Sent, sent_by, flat}
use Rattle.exb_model.specs.History.{Basis, History, ◌then◌, command_of, after_any, bridge_after}
use Rattle.exb_model.specs.declared.arrival.Arrival.{Arrival}
use Rattle.exb_model.specs.Learning.{Look, passes, learned}
use Rattle.exb_model.specs.LegalHistory.{EachEvent, number_of, IsDecided, IsEntered}
use Rattle.exb_model.specs.Lists.{numbered}
use Rattle.exb_model.specs.Refusals.{refusal}
use Rattle.exb_model.specs.Setup.{Limits}
use Rattle.exb_model.specs.Tree.{Shape, is_external}
use Rattle.exb_frame.specs.TagValues.{TagRoundTrip}
use Rattle.exb_learn.specs.Calls.{Tick, Table, look_in}
use Rattle.exb_learn.specs.Calls.{after_call as after_one}
use Rattle.exb_learn.specs.Histories.{relay_call, command_call, table_after}
use Rattle.exb_learn.specs.Histories.{after_any as after_call}
use Rattle.exb_learn.proofs.HistoryTables.{follows, looks_learned}
use Rattle.exb_relay.specs.Laws.{SendsAreWords, SendsLeaveAsFlat}
use Rattle.exb_control_spec.specs.declared.job.Job.{Job}
use Rattle.exb_control_spec.specs.declared.job.Job.TheVariants as job
use Rattle.exb_control_spec.specs.InitialState.{first_jobs}
use Rattle.exb_control_spec.specs.Runs.Journal.{cause_of, told_by, kept_by, told, pending, StepsTell, Tells}
use Rattle.exb_world_spec.specs.Runs.SessionLaws.{ordered_by}
use Rattle.exb_world_spec.specs.Runs.Simulation.{jobs_in, jobs_after, StaysSound}
use Rattle.exb_world_spec.specs.Steps.{done_by, stepped}
use Rattle.exb_world_spec.specs.Worlds.{World, Step, Arrive, Carry, Control, Lose, Beat, Order, Mark, Left, left_at}
use Rattle.exb_world_spec.specs.Worlds as steps
use Rattle.exb_world_spec.proofs.Journal.{follows_telling}
use Rattle.exb_world_spec.proofs.SessionLaws.{steps_stay_sound}
use Rattle.exb_flight.specs.FlightFacts.{IsOf, AreOf}
use Rattle.exb_flight.specs.Items.{Each}
use Rattle.exb_flight.proofs.IndexLists.{numbered_last, each_front, each_back, each_join}
use Rattle.exb_flight.specs.Promises.{owed_at}
use Rattle.exb_flight.proofs.SimulatedRelay.{left_append}
use Rattle.exb_flight.proofs.KeptPromises.{stood_promises}
use Rattle.exb_world_laws.specs.WorldInput.{Given, given_by, arrivals_at, commands_of, basis_with}
use Rattle.exb_world_laws.specs.OneBridge.{command_number, automatic_port, up_port, AreDecided, IsRisen, IsRightly, Stands}
use Rattle.exb_world_laws.specs.WorldInvariant.{MayStart, MayDo, IsSurely, Kept, StandsGoOn}
use Rattle.exb_world_laws.proofs.DecidedJobs.{IsJust, AreJust, journal_just}
use Rattle.exb_world_laws.proofs.LongerHistories.{HasCommand, HasCommands, longer, command_stays, bridge_stays, table_stays, flat_stays}
use Rattle.exb_world_laws.proofs.JobOrder.{reverse_then, numbers_of_jobs, ups_of_jobs, told_numbers, told_ups, after_numbers, after_ups, all_of}
use Rattle.exb_world_laws.proofs.InvariantSteps.{commands_append, basis_more, all_longer, range_more, ordered_given, IsMet, IsRenewed, step_renewed, step_kept}
use Rattle.exb_world_laws.proofs.OneBridge.{rightly, kept_stands}

-- ---- each command that a history names was given
module _ (i : Basis) where
  abbrev WasGiven : ℕ → Type 0
  WasGiven n = (c : Command) × (command_of i n ≡ Some c)

  numbers_given : (js : List Job) → AreOf i js → Each WasGiven (filter_map command_number js)
  numbers_given [] k = tt
  numbers_given (job.Opening n ∷ js) k = numbers_given js k.1
  numbers_given (job.AutomaticUp p ∷ js) k = numbers_given js k.1
  numbers_given (job.Ordered n c ∷ js) k = ((c, k.0), numbers_given js k.1)

  all_given : Shape → Each WasGiven (range_with_len 1 (length i.commands))
  all_given t =
      let js : List Job = jobs_after 0 i.commands in
      subst (Each WasGiven) (after_numbers 0 i.commands) (numbers_given js (each_back (IsOf i) (first_jobs t) js (all_of i t)))

  event_given : (e : Event) → Each WasGiven (filter_map number_of (e ∷ [])) → HasCommand i e
  event_given (event.Relay p n moment f) k = tt
  event_given (event.Ignored p n) k = tt
  event_given (event.Tick seconds) k = tt
  event_given (event.Commit n) k = k.0
  event_given (event.Refuse n x) k = k.0
  event_given (event.Up p) k = tt
  event_given (event.NoUp p x) k = tt
  event_given event.Settled k = tt

  history_given : (h : History) → Each WasGiven (filter_map number_of (reverse h)) → HasCommands i h
  history_given [] k = tt
  history_given (e ∷ h) k =
      let before : List ℕ = filter_map number_of (reverse h) in
      let last : List ℕ = filter_map number_of (e ∷ []) in
      let parts : filter_map number_of (reverse (e ∷ h)) ≡ before ++ last = ap (filter_map number_of) (reverse_then h (e ∷ [])) ∙ filter_map-append number_of (reverse h) (e ∷ []) in
      let both : Each WasGiven (before ++ last) = subst (Each WasGiven) parts k in
      (history_given h (each_front WasGiven before last both), event_given e (each_back WasGiven before last both))

-- ---- each Ignored is of an arrival that was given
module _ (i : Basis) (arrivals : ℕ → List Arrival) where
  some_there : {X : Type 0} (P : X → Type 0) (o : Option X) → IsSomeAnd o P → (x : X) × (o ≡ Some x) × P x
  some_there P None k = absurd k
  some_there P (Some x) k = (x, refl, k)

  surely_one : (h : History) (e : Event) → IsEntered i arrivals h e → IsSurely i arrivals h e
  surely_one h (event.Relay p n moment f) k = k
  surely_one h (event.Ignored p n) k = some_there (λ (a : Arrival). is_relayed (bridge_after i h) p a.bytes ≡ false) (numbered (arrivals p) n) k
  surely_one h (event.Tick seconds) k = tt
  surely_one h (event.Commit n) k = tt
  surely_one h (event.Refuse n x) k = tt
  surely_one h (event.Up p) k = tt
  surely_one h (event.NoUp p x) k = tt
  surely_one h event.Settled k = tt

  surely_all : (h : History) → EachEvent (IsEntered i arrivals) h → EachEvent (IsSurely i arrivals) h
  surely_all [] k = tt
  surely_all (e ∷ h) k = (surely_all h k.0, surely_one h e k.1)

-- ---- with more commands an event stands as it did
module _ (t : Shape) (l : Limits) (i : Basis) (cs : List Command) where
  decided_longer : (h : History) (e : Event) → HasCommand i e → bridge_after (longer i cs) h ≡ bridge_after i h → IsDecided t l i h e → IsDecided t l (longer i cs) h e
  decided_longer h (event.Commit n) has same k =
      subst (λ (b : Bridge). IsSomeAnd (command_of (longer i cs) n) (λ c. refusal t l b c ≡ None)) (sym same)
      (subst (λ (o : Option Command). IsSomeAnd o (λ c. refusal t l (bridge_after i h) c ≡ None)) (sym (command_stays i cs n has.0 has.1)) k)
  decided_longer h (event.Refuse n x) has same k =
      subst (λ (b : Bridge). IsSomeAnd (command_of (longer i cs) n) (λ c. refusal t l b c ≡ Some x)) (sym same)
      (subst (λ (o : Option Command). IsSomeAnd o (λ c. refusal t l (bridge_after i h) c ≡ Some x)) (sym (command_stays i cs n has.0 has.1)) k)
  decided_longer h (event.Relay p n moment f) has same k = tt
  decided_longer h (event.Ignored p n) has same k = tt
  decided_longer h (event.Tick seconds) has same k = tt
  decided_longer h (event.Up p) has same k = tt
  decided_longer h (event.NoUp p x) has same k = tt
  decided_longer h event.Settled has same k = tt

  risen_longer : (h : History) (e : Event) → bridge_after (longer i cs) h ≡ bridge_after i h → IsRisen t l i h e → IsRisen t l (longer i cs) h e
  risen_longer h (event.Up p) same k = ap (λ (b : Bridge). refusal t l b (command.Up p)) same ∙ k
  risen_longer h (event.NoUp p x) same k = ap (λ (b : Bridge). refusal t l b (command.Up p)) same ∙ k
  risen_longer h (event.Relay p n moment f) same k = tt
  risen_longer h (event.Ignored p n) same k = tt
  risen_longer h (event.Tick seconds) same k = tt
  risen_longer h (event.Commit n) same k = tt
  risen_longer h (event.Refuse n x) same k = tt
  risen_longer h event.Settled same k = tt

  has_longer : (e : Event) → HasCommand i e → HasCommand (longer i cs) e
  has_longer (event.Commit n) k = (k.0, command_stays i cs n k.0 k.1 ∙ k.1)
  has_longer (event.Refuse n x) k = (k.0, command_stays i cs n k.0 k.1 ∙ k.1)
  has_longer (event.Relay p n moment f) k = tt
  has_longer (event.Ignored p n) k = tt
  has_longer (event.Tick seconds) k = tt
  has_longer (event.Up p) k = tt
  has_longer (event.NoUp p x) k = tt
  has_longer event.Settled k = tt

  just_longer : (arrivals : ℕ → List Arrival) (h : History) → HasCommands i h → EachEvent (IsRightly t l i arrivals) h → EachEvent (IsJust t l (longer i cs)) h
  just_longer arrivals [] has k = tt
  just_longer arrivals (e ∷ h) has k =
      let same : bridge_after (longer i cs) h ≡ bridge_after i h = bridge_stays i cs h has.0 in (
        just_longer arrivals h has.0 k.0,
        record { decided = decided_longer h e has.1 same k.1.decided; risen = risen_longer h e same k.1.risen; has = has_longer e has.1 },
      )

-- ---- two histories that left the same configuration and table grow alike
-- the command of an event is the same of both
abbrev IsShared : Basis → Basis → Event → Type 0
IsShared i j (event.Commit n) = command_of i n ≡ command_of j n
IsShared i j _ = Unit {0}

record AreAlike (i j : Basis) (h k : History) : Type 0 where
  bridge : bridge_after i h ≡ bridge_after j k
  table : table_after i h ≡ table_after j k

module _ (i j : Basis) where
  bridge_alike : (e : Event) (h k : History) → AreAlike i j h k → IsShared i j e → bridge_after i (e ∷ h) ≡ bridge_after j (e ∷ k)
  unfolding bridge_after
  bridge_alike (event.Relay p n moment f) h k a s = a.bridge
  bridge_alike (event.Ignored p n) h k a s = a.bridge
  bridge_alike (event.Tick seconds) h k a s = a.bridge
  bridge_alike (event.Commit n) h k a s = ap (λ (o : Option Command). after_any o (bridge_after i h)) s ∙ ap (after_any (command_of j n)) a.bridge
  bridge_alike (event.Refuse n x) h k a s = a.bridge
  bridge_alike (event.Up p) h k a s = ap (after (command.Up p)) a.bridge
  bridge_alike (event.NoUp p x) h k a s = a.bridge
  bridge_alike event.Settled h k a s = a.bridge

  table_alike : (e : Event) (h k : History) → AreAlike i j h k → IsShared i j e → table_after i (e ∷ h) ≡ table_after j (e ∷ k)
  unfolding table_after
  table_alike (event.Relay p n moment f) h k a s =
      ap (λ (b : Bridge). after_call (relay_call p f (passes b p f)) (table_after i h)) a.bridge ∙ ap (after_call (relay_call p f (passes (bridge_after j k) p f))) a.table
  table_alike (event.Ignored p n) h k a s = a.table
  table_alike (event.Tick seconds) h k a s = ap (after_one (Tick seconds)) a.table
  table_alike (event.Commit n) h k a s = ap (λ (o : Option Command). after_call (command_call o) (table_after i h)) s ∙ ap (after_call (command_call (command_of j n))) a.table
  table_alike (event.Refuse n x) h k a s = a.table
  table_alike (event.Up p) h k a s = a.table
  table_alike (event.NoUp p x) h k a s = a.table
  table_alike event.Settled h k a s = a.table

  learned_alike : (h k : History) → AreAlike i j h k → learned i h ≡ learned j k
  learned_alike h k a = fun_ext (λ v. fun_ext (λ m. sym (looks_learned i h v m) ∙ (ap (λ (u : Table). look_in u v m) a.table ∙ looks_learned j k v m)))

  -- what the one bridge sends for more events is the same
  record GrowAlike (h k : History) (es : List Event) : Type 0 where
    alike : AreAlike i j (h then es) (k then es)
    more : ℕ → List Sent
    first : (q : ℕ) → flat i (h then es) q ≡ flat i h q ++ more q
    second : (q : ℕ) → flat j (k then es) q ≡ flat j k q ++ more q

  flat_step : (b : Basis) (e : Event) (h : History) (q : ℕ) → flat b (e ∷ h) q ≡ flat b h q ++ sent_by (bridge_after b h) (learned b h) e q
  unfolding flat
  flat_step b e h q = refl

  grow_alike : (es : List Event) (h k : History) → AreAlike i j h k → Each (IsShared i j) es → GrowAlike h k es
  grow_alike [] h k a s = record { alike = a; more = λ q. []; first = λ q. sym (append-nil (flat i h q)); second = λ q. sym (append-nil (flat j k q)) }
  grow_alike (e ∷ es) h k a s =
      let rest = grow_alike es (e ∷ h) (e ∷ k) (record { bridge = bridge_alike e h k a s.0; table = table_alike e h k a s.0 }) s.1 in
      let now : ℕ → List Sent = sent_by (bridge_after i h) (learned i h) e in
      let same : (q : ℕ) → sent_by (bridge_after j k) (learned j k) e q ≡ now q = λ q.
      sym (ap (λ (b : Bridge). sent_by b (learned i h) e q) a.bridge ∙ ap (λ (look : Look). sent_by (bridge_after j k) look e q) (learned_alike h k a)) in
      record {
        alike = rest.alike;
        more = λ q. now q ++ rest.more q;
        first = λ q. rest.first q ∙ (ap (λ (xs : List Sent). xs ++ rest.more q) (flat_step i e h q) ∙ append_assoc (flat i h q) (now q) (rest.more q));
        second = λ q.
            rest.second q
            ∙ (ap (λ (xs : List Sent). xs ++ rest.more q) (flat_step j e k q ∙ ap (λ (xs : List Sent). flat j k q ++ xs) (same q))
            ∙ append_assoc (flat j k q) (now q) (rest.more q));
      }

  -- events of jobs of both
  told_shared : (t : Shape) (l : Limits) (ds : List Job) (b : Bridge) → AreOf i ds → AreOf j ds → Each (IsShared i j) (told t l b ds)
  told_shared t l [] b x y = tt
  told_shared t l (job.Opening n ∷ ds) b x y = told_shared t l ds b x.1 y.1
  told_shared t l (job.AutomaticUp p ∷ ds) b x y = by_cause (cause_of t l b (job.AutomaticUp p)) (λ k. told_shared t l ds k x.1 y.1)
    where
      by_cause : (o : Option Cause) → ((k : Bridge) → Each (IsShared i j) (told t l k ds)) → Each (IsShared i j) (told_by (job.AutomaticUp p) o ++ told t l (kept_by (job.AutomaticUp p) b o) ds)
      by_cause None rest = (tt, rest _)
      by_cause (Some c) rest = (tt, rest _)
  told_shared t l (job.Ordered n c ∷ ds) b x y = by_cause (cause_of t l b (job.Ordered n c)) (λ k. told_shared t l ds k x.1 y.1)
    where
      by_cause : (o : Option Cause) → ((k : Bridge) → Each (IsShared i j) (told t l k ds)) → Each (IsShared i j) (told_by (job.Ordered n c) o ++ told t l (kept_by (job.Ordered n c) b o) ds)
      by_cause None rest = (x.0 ∙ sym y.0, rest _)
      by_cause (Some d) rest = (tt, rest _)

  jobs_shared : (es : List Event) → Each (IsShared i j) (jobs_in es) → Each (IsShared i j) es
  jobs_shared [] k = tt
  jobs_shared (event.Relay p n moment f ∷ es) k = (tt, jobs_shared es k)
  jobs_shared (event.Ignored p n ∷ es) k = (tt, jobs_shared es k)
  jobs_shared (event.Tick seconds ∷ es) k = (tt, jobs_shared es k)
  jobs_shared (event.Commit n ∷ es) k = (k.0, jobs_shared es k.1)
  jobs_shared (event.Refuse n x ∷ es) k = (tt, jobs_shared es k.1)
  jobs_shared (event.Up p ∷ es) k = (tt, jobs_shared es k.1)
  jobs_shared (event.NoUp p x ∷ es) k = (tt, jobs_shared es k.1)
  jobs_shared (event.Settled ∷ es) k = (tt, jobs_shared es k)

-- ---- a table by its parts
table_by : (a b : Table) → a.ageing ≡ b.ageing → a.clock ≡ b.clock → ((v : ℕ) (m : List ℕ) → a.seen v m ≡ b.seen v m) → a ≡ b
table_by a b ageing clock seen = λ x. record { ageing = ageing x; clock = clock x; seen = λ v m. seen v m x }

-- ---- what a world that stands has, as a step goes on from it
module _ (t : Shape) (l : Limits) (w : World) (i : Basis) (g : List Given) (h : History) (left : List Left) (s : Stands t l i w g h left) where
  pub its_commands : HasCommands (basis_with i g) h
  its_commands =
      let told : List ℕ = filter_map number_of (reverse h) in
      let waiting : List ℕ = filter_map command_number (pending w.control) in
      history_given (basis_with i g) h (each_front (WasGiven (basis_with i g)) told waiting (subst (Each (WasGiven (basis_with i g))) (sym s.decided.commands) (all_given (basis_with i g) t)))

  entered_in : (k : History) → EachEvent (IsRightly t l (basis_with i g) (λ p. arrivals_at p g)) k → EachEvent (IsEntered (basis_with i g) (λ p. arrivals_at p g)) k
  entered_in [] r = tt
  entered_in (e ∷ k) r = (entered_in k r.0, r.1.entered)

  its_parts : IsMet t i w g h
  its_parts =
      record {
        follows = s.follows;
        names = s.names;
        entered = surely_all (basis_with i g) (λ p. arrivals_at p g) h (entered_in h s.rightly);
        bridge = sym s.force.bridge;
        commands = its_commands;
      }

  its_table : i.ageing ≡ w.table.ageing → w.table ≡ table_after (basis_with i g) h
  its_table aged =
      let f = follows (basis_with i g) h in
      table_by w.table (table_after (basis_with i g) h) (sym aged ∙ sym f.ageing_is) (s.force.clock ∙ sym f.clock_is) (λ v m. s.force.learned v m ∙ sym (f.seen_is v m))

  -- the commands of all jobs that wait, with that of a step
  new_of : (step : Step) → AreOf (basis_with i (g ++ given_by step)) (jobs_after w.control.given (ordered_by step))
  new_of (Arrive a) = tt
  new_of (Carry n way) = tt
  new_of (Control n way k keep) = tt
  new_of (Lose n way k) = tt
  new_of Beat = tt
  new_of (steps.Tick seconds) = tt
  new_of (Order c) = (
    ap (λ (xs : List Command). numbered xs (w.control.given + 1)) (commands_append g (given_by (Order c)))
        ∙ (ap (λ (n : ℕ). numbered (commands_of g ++ c ∷ []) (n + 1)) s.follows.commands ∙ numbered_last (commands_of g) c),
    tt,
  )
  new_of Mark = tt

  all_of_step : (step : Step) → AreOf (basis_with i (g ++ given_by step)) (pending w.control ++ jobs_after w.control.given (ordered_by step))
  all_of_step step =
      let b : Basis = basis_with i (g ++ given_by step) in
      let js : List Job = pending w.control in
      let old : AreOf b js =
      subst (λ (k : Basis). AreOf k js) (sym (basis_more i g (given_by step))) (all_longer (basis_with i g) (commands_of (given_by step)) js s.decided.waiting) in
      each_join (IsOf b) js (jobs_after w.control.given (ordered_by step)) old (new_of step)

-- no step gives an automatic up
new_ups : (n : ℕ) (step : Step) → filter_map automatic_port (jobs_after n (ordered_by step)) ≡ []
new_ups n step = after_ups n (ordered_by step)

no_more : (n : ℕ) → range_with_len 1 n ++ [] ≡ range_with_len 1 (n + 0)
no_more n = append-nil (range_with_len 1 n) ∙ ap (range_with_len 1) (sym (add-zero n))

range_join : (n : ℕ) (step : Step) → range_with_len 1 n ++ range_with_len (n + 1) (length (ordered_by step)) ≡ range_with_len 1 (n + length (ordered_by step))
range_join n (Arrive a) = no_more n
range_join n (Carry m way) = no_more n
range_join n (Control m way k keep) = no_more n
range_join n (Lose m way k) = no_more n
range_join n Beat = no_more n
range_join n (steps.Tick seconds) = no_more n
range_join n (Order c) = sym (range_more n)
range_join n Mark = no_more n

-- ---- a step
-- what it decides, of the jobs that waited before it and the one that it gives
module _ (round : TagRoundTrip) (words : SendsAreWords) (leave : SendsLeaveAsFlat) (law : StepsTell) (t : Shape) (l : Limits) (b : Basis) (start : MayStart t l b) (w : World) (given : List Given) (before : History) (gone : List Left)
    (k : Kept t l b w given before gone) (step : Step) (may : MayDo t l w step) where
  abbrev made : World
  made = (done_by t l step w).world

  abbrev events : List Event
  events = (done_by t l step w).events

  record Decides : Type 0 where
    downs : List ℕ
    tells : Tells t l w.control.bridge (pending w.control ++ jobs_after w.control.given (ordered_by step)) (jobs_in events) downs made.control

  decides : Decides
  unfolding stepped
  decides =
      let one : StaysSound t l (ordered_by step) w made events = steps_stay_sound round t l start.setting w step k.stood.sound may.may in
      let told = follows_telling t l w.control.bridge law start.setting.tree (pending w.control) [] [] (ordered_by step) events w made one.follows
      (record { decided = []; order = refl; lines = refl; ports = refl; bridge = refl; will = k.tells.will }) in
      record { downs = told.by_step.told.more; tells = told.by_step.told.tells }

  kept_after : Kept t l b (stepped t l step w).world (given ++ given_by step) (before then (stepped t l step w).events) (gone ++ (stepped t l step w).left)
  kept_after = step_kept round words leave law t l b start w given before gone k step may

  -- of any that stands
  module _ (i : Basis) (aged : i.ageing ≡ w.table.ageing) (g : List Given) (h : History) (left : List Left) (s : Stands t l i w g h left) where
    abbrev more : List Given
    more = given_by step

    abbrev now : Basis
    now = basis_with i (g ++ more)

    then_of : AreOf now decides.tells.decided
    then_of =
        each_front (IsOf now) decides.tells.decided (pending made.control) (subst (AreOf now) (sym decides.tells.order) (all_of_step t l w i g h left s step))

    waiting_of : AreOf now (pending made.control)
    waiting_of =
        each_back (IsOf now) decides.tells.decided (pending made.control) (subst (AreOf now) (sym decides.tells.order) (all_of_step t l w i g h left s step))

    longer_bridge : bridge_after now h ≡ w.control.bridge
    longer_bridge =
        ap (λ (c : Basis). bridge_after c h) (basis_more i g more) ∙ (bridge_stays (basis_with i g) (commands_of more) h (its_commands t l w i g h left s) ∙ sym s.force.bridge)

    longer_table : w.table ≡ table_after now h
    longer_table =
        its_table t l w i g h left s aged ∙ (sym (table_stays (basis_with i g) (commands_of more) h (its_commands t l w i g h left s)) ∙ sym (ap (λ (c : Basis). table_after c h) (basis_more i g more)))

    longer_flat : (q : ℕ) → flat now h q ≡ flat (basis_with i g) h q
    longer_flat q = ap (λ (c : Basis). flat c h q) (basis_more i g more) ∙ flat_stays (basis_with i g) (commands_of more) h q (its_commands t l w i g h left s)

    just_then : AreJust t l now (h then events) made.control.bridge
    just_then =
        let start_just : EachEvent (IsJust t l now) h =
        subst (λ (c : Basis). EachEvent (IsJust t l c) h) (sym (basis_more i g more))
        (just_longer t l (basis_with i g) (commands_of more) (λ p. arrivals_at p g) h (its_commands t l w i g h left s) s.rightly) in
        let just = journal_just t l now events decides.tells.decided w.control.bridge h then_of decides.tells.lines (record { bridge = longer_bridge; each = start_just }) in
        subst (AreJust t l now (h then events)) (sym decides.tells.bridge) just

    decided_then : AreDecided t now made (g ++ more) (h then events)
    decided_then =
        let ds : List Job = decides.tells.decided in
        let js : List Job = pending w.control in
        let xs : List Job = jobs_after w.control.given (ordered_by step) in
        let ps : List Job = pending made.control in
        let cs : List Command = commands_of more in
        let numbers : filter_map number_of events ≡ filter_map command_number ds = numbers_of_jobs events ∙ (ap (filter_map number_of) decides.tells.lines ∙ told_numbers t l ds w.control.bridge) in
        let ups : filter_map up_port events ≡ filter_map automatic_port ds = ups_of_jobs events ∙ (ap (filter_map up_port) decides.tells.lines ∙ told_ups t l ds w.control.bridge) in
        let given_is : w.control.given ≡ length (commands_of g) = s.follows.commands in
        let size : length (commands_of g) + length (ordered_by step) ≡ length (commands_of (g ++ more)) =
        ap (λ (c : List Command). length (commands_of g) + length c) (ordered_given step)
        ∙ (sym (length-append (commands_of g) cs) ∙ ap (λ (c : List Command). length c) (sym (commands_append g more))) in
        record {
          commands =
              ap (λ (es : List Event). filter_map number_of es ++ filter_map command_number ps) (reverse_then h events)
              ∙ (ap (λ (ns : List ℕ). ns ++ filter_map command_number ps) (filter_map-append number_of (reverse h) events)
              ∙ (append_assoc (filter_map number_of (reverse h)) (filter_map number_of events) (filter_map command_number ps)
              ∙ (ap (λ (ns : List ℕ). filter_map number_of (reverse h) ++ ns)
              (ap (λ (ns : List ℕ). ns ++ filter_map command_number ps) numbers ∙ (sym (filter_map-append command_number ds ps) ∙ (ap (filter_map command_number) decides.tells.order ∙ filter_map-append command_number js xs)))
              ∙ (sym (append_assoc (filter_map number_of (reverse h)) (filter_map command_number js) (filter_map command_number xs))
              ∙ (ap (λ (ns : List ℕ). ns ++ filter_map command_number xs) s.decided.commands
              ∙ (ap (λ (ns : List ℕ). range_with_len 1 (length (commands_of g)) ++ ns) (after_numbers w.control.given (ordered_by step) ∙ ap (λ (n : ℕ). range_with_len (n + 1) (length (ordered_by step))) given_is)
              ∙ (range_join (length (commands_of g)) step ∙ ap (range_with_len 1) size)))))));
          waiting = waiting_of;
          automatic =
              ap (λ (es : List Event). filter_map up_port es ++ filter_map automatic_port ps) (reverse_then h events)
              ∙ (ap (λ (ns : List ℕ). ns ++ filter_map automatic_port ps) (filter_map-append up_port (reverse h) events)
              ∙ (append_assoc (filter_map up_port (reverse h)) (filter_map up_port events) (filter_map automatic_port ps)
              ∙ (ap (λ (ns : List ℕ). filter_map up_port (reverse h) ++ ns)
              (ap (λ (ns : List ℕ). ns ++ filter_map automatic_port ps) ups
              ∙ (sym (filter_map-append automatic_port ds ps)
              ∙ (ap (filter_map automatic_port) decides.tells.order
              ∙ (filter_map-append automatic_port js xs ∙ (ap (λ (ns : List ℕ). filter_map automatic_port js ++ ns) (new_ups w.control.given step) ∙ append-nil (filter_map automatic_port js))))))
              ∙ s.decided.automatic)));
        }

  -- so it goes on
  module _ (i : Basis) (aged : i.ageing ≡ w.table.ageing) (g : List Given) (h : History) (left : List Left) (s : Stands t l i w g h left) where
    abbrev lefts : List Left
    lefts = (done_by t l step w).left

    its_stand : Stands t l b w given before gone
    its_stand = kept_stands t l b start w given before gone k

    its_aged : b.ageing ≡ w.table.ageing
    its_aged =
        let table = (stood_promises t l (basis_with b given) start.setting w before gone k.stood).force.table in
        sym (ap (λ (u : Table). u.ageing) table ∙ (follows (basis_with b given) before).ageing_is)

    renewed_then : IsRenewed t i w made g (given_by step) h events
    renewed_then = step_renewed t l b start round words leave w given before gone k i g h (its_parts t l w i g h left s) step may

    both : GrowAlike (basis_with i (g ++ given_by step)) (basis_with b (given ++ given_by step)) h before events
    both =
        let j : Basis = basis_with i (g ++ given_by step) in
        let c : Basis = basis_with b (given ++ given_by step) in
        let d = decides.tells in
        let alike : AreAlike j c h before = record {
          bridge = longer_bridge i aged g h left s ∙ sym (longer_bridge b its_aged given before gone its_stand);
          table = sym (longer_table i aged g h left s) ∙ longer_table b its_aged given before gone its_stand;
        } in
        let shared : Each (IsShared j c) (jobs_in events) =
        subst (Each (IsShared j c)) (sym d.lines) (told_shared j c t l d.decided w.control.bridge (then_of i aged g h left s) (then_of b its_aged given before gone its_stand)) in
        grow_alike j c events h before alike (jobs_shared j c events shared)

    even_then : (q : ℕ) → is_external t q ≡ true → left_at q (left ++ lefts) ++ owed_at t made q ≡ flat (basis_with i (g ++ given_by step)) (h then events) q
    unfolding stepped
    even_then q ext =
        let A : List Sent = left_at q left in
        let B : List Sent = left_at q gone in
        let D : List Sent = left_at q lefts in
        let O : List Sent = owed_at t w q in
        let P : List Sent = owed_at t made q in
        let M : List Sent = both.more q in
        let old = s.even q ext in
        let kept = (stood_promises t l (basis_with b given) start.setting w before gone k.stood).even q ext in
        let next = (stood_promises t l (basis_with b (given ++ given_by step)) start.setting made (before then events) (gone ++ lefts) kept_after.stood).even q ext in
        let all : B ++ (D ++ P) ≡ B ++ (O ++ M) =
        sym (append_assoc B D P)
        ∙ (ap (λ (xs : List Sent). xs ++ P) (sym (left_append q gone lefts))
        ∙ (next
        ∙ (both.second q
        ∙ (ap (λ (xs : List Sent). xs ++ M) (longer_flat b its_aged given before gone its_stand q ∙ sym kept) ∙ append_assoc B O M)))) in
        ap (λ (xs : List Sent). xs ++ P) (left_append q left lefts)
        ∙ (append_assoc A D P
        ∙ (ap (λ (xs : List Sent). A ++ xs) (append_cancel_left B (D ++ P) (O ++ M) all)
        ∙ (sym (append_assoc A O M) ∙ (ap (λ (xs : List Sent). xs ++ M) (old ∙ sym (longer_flat i aged g h left s q)) ∙ sym (both.first q)))))

    table_then : made.table ≡ table_after (basis_with i (g ++ given_by step)) (h then events)
    unfolding stepped
    table_then = (stood_promises t l (basis_with b (given ++ given_by step)) start.setting made (before then events) (gone ++ lefts) kept_after.stood).force.table ∙ sym both.alike.table

    commands_then : made.control.given ≡ length (commands_of (g ++ given_by step))
    unfolding stepped
    commands_then =
        let cs : List Command = commands_of (given_by step) in
        let size : (xs : List Given) → length (commands_of (xs ++ given_by step)) ≡ length (commands_of xs) + length cs = λ xs.
        ap (λ (c : List Command). length c) (commands_append xs (given_by step)) ∙ length-append (commands_of xs) cs in
        kept_after.follows.commands ∙ (size given ∙ (ap (λ (n : ℕ). n + length cs) (sym its_stand.follows.commands ∙ s.follows.commands) ∙ sym (size g)))

    stands_then : Stands t l i (stepped t l step w).world (g ++ given_by step) (h then (stepped t l step w).events) (left ++ (stepped t l step w).left)
    unfolding stepped
    stands_then =
        let j : Basis = basis_with i (g ++ given_by step) in
        let f = follows j (h then events) in
        let just = just_then i aged g h left s in
        record {
          follows = record { indexed = renewed_then.indexed; next = renewed_then.next; commands = commands_then };
          force = record {
            bridge = sym just.bridge;
            clock = ap (λ (u : Table). u.clock) table_then ∙ f.clock_is;
            learned = λ v m. ap (λ (u : Table). u.seen v m) table_then ∙ f.seen_is v m;
          };
          even = even_then;
          names = renewed_then.names;
          decided = decided_then i aged g h left s;
          rightly = rightly t l j (λ p. arrivals_at p (g ++ given_by step)) (h then events) renewed_then.entered just.each;
        }

pub stands_go_on : TagRoundTrip → SendsAreWords → SendsLeaveAsFlat → StepsTell → StandsGoOn
stands_go_on round words leave law t l b start w given before gone k step may i aged g h left s =
    stands_then round words leave law t l b start w given before gone k step may i aged g h left s
