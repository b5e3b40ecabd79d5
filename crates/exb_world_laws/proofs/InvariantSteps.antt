-- Each step keeps what the world keeps.
use Rattle.std.proofs.Common.{◌≡◌, ◌≢◌, ℕ, zero, suc, ◌+◌, ◌%◌, ◌≤◌, ◌==◌, ◌&&◌, ◌||◌, ◌++◌, nat_lt, nat_le, Bool, true, false, List, [], ◌∷◌, length, Option, Some, None, refl, sym, ◌∙◌, ap, subst, arith, inl, inr, length-append}
use Rattle.std.specs.Prelude.{filter, map}
use Rattle.std.specs.List.{range_with_len}
use Rattle.std.proofs.lemmas.Bool.{cases_Bool, cases_eq, cases_lt, lt-ltb, le-ltb, le-leb, and_from, eq-eqb, ne_eqb, eqb-true}
use Rattle.std.proofs.lemmas.List.{append-nil, append_assoc}
use Rattle.std.proofs.lemmas.List.Elements.{filter-append}
use Rattle.std.proofs.lemmas.List.FromFn.{map-range_with_len_more}
use Rattle.exb_model.specs.declared.command.Command.{Command}
use Rattle.exb_model.specs.declared.event.Event.{Event}
use Rattle.exb_model.specs.declared.event.Event.TheVariants as event
use Rattle.exb_model.specs.declared.frame_kind.Seen.{Seen}
use Rattle.exb_model.specs.declared.frame_kind.Seen.TheVariants as seen
use Rattle.exb_model.specs.ETags.{stripped}
use Rattle.exb_model.specs.Frames.{kind_of, IsBytes}
use Rattle.exb_model.specs.EagerHistory.{is_relayed, is_relayed_kind, arrival_event}
use Rattle.exb_model.specs.Lists.{numbered}
use Rattle.exb_model.specs.Configuration.{Bridge}
use Rattle.exb_model.specs.declared.arrival.Arrival.{Arrival}
use Rattle.exb_model.specs.LegalHistory.{EachEvent}
use Rattle.exb_model.specs.Setup.{Limits}
use Rattle.exb_model.specs.Tree.{Shape, device, on, is_external, is_extended, port_number}
use Rattle.exb_model.specs.History.{Basis, History, ◌then◌, bridge_after}
use Rattle.exb_frame.specs.TagValues.{TagRoundTrip}
use Rattle.exb_extender.specs.Forwarding.{is_refused_kind, is_ignored}
use Rattle.exb_link.specs.declared.link_frame.Stamp.{Stamp}
use Rattle.exb_link.specs.declared.link_frame.LinkFrame.{LinkFrame}
use Rattle.exb_link.specs.LinkFrames.{is_control, is_data, without_data, without_control}
use Rattle.exb_relay.specs.Laws.{SendsAreWords, SendsLeaveAsFlat}
use Rattle.exb_config.specs.Pvids.{HasPvids}
use Rattle.exb_control_spec.specs.declared.job.Job.{Job}
use Rattle.exb_control_spec.specs.declared.job.Job.TheVariants as job
use Rattle.exb_control_spec.specs.InitialState.{first_jobs}
use Rattle.exb_control_spec.specs.Decisions.{decide}
use Rattle.exb_control_spec.specs.Machine.{Work, ordered}
use Rattle.exb_control_spec.specs.Runs.Journal.{kept, StepsTell, Tells}
use Rattle.exb_control_spec.specs.Runs.Systems.{System}
use Rattle.exb_world_spec.specs.Worlds.{World, Way, Up, Down, Step, Arrive, Carry, Control, Lose, Beat, Tick, Order, Mark, Left}
use Rattle.exb_model.specs.Tables.{at}
use Rattle.exb_world_spec.specs.ExtenderSteps.{takes_from_above}
use Rattle.exb_world_spec.specs.Runs.Journal.{is_to_bridge}
use Rattle.exb_world_spec.specs.Runs.SessionLaws.{ordered_by}
use Rattle.exb_world_spec.specs.DataFrames.{arrival_by, comes}
use Rattle.exb_world_spec.specs.Runs.Simulation.{is_of_job, jobs_in, given_after, jobs_after, StaysSound}
use Rattle.exb_world_spec.specs.Runs.Sessions as machine
use Rattle.exb_world_spec.proofs.LinkFrames.{each_filter, each_get}
use Rattle.exb_world_spec.specs.Steps.{words_on, with_words, takes_any, first_data, control_at, rest_of, counted, done_by, stepped}
use Rattle.exb_world_spec.proofs.BridgeSteps.{comes_events}
use Rattle.exb_world_spec.proofs.Journal.{jobs_more, follows_telling}
use Rattle.exb_world_spec.proofs.SessionLaws.{steps_stay_sound}
use Rattle.exb_world_spec.proofs.Stamps.{step_stamped}
use Rattle.exb_world_spec.proofs.StepEvents.{steps_tell_by_kind, control_is}
use Rattle.exb_flight.specs.Items.{Each, words_of}
use Rattle.exb_flight.specs.Tree.{Over, itself, IsLink}
use Rattle.exb_flight.specs.FlightFacts.{IsOf, AreOf, WorkGood, IsUp, Facts}
use Rattle.exb_flight.specs.Flight.{Flight, tables_of}
use Rattle.exb_flight.proofs.ArrivalEvents.{not_present}
use Rattle.exb_flight.proofs.ItemLists.{each_first}
use Rattle.exb_flight.proofs.IndexLists.{numbered_more, numbered_last, each_change, each_join}
use Rattle.exb_flight.proofs.ExtendersAbove.{no_circle}
use Rattle.exb_flight.specs.Simulation.{MayFly, IsNext}
use Rattle.exb_flight.specs.SimulationRelation.{Stood}
use Rattle.exb_flight.specs.Tokens.{datum_by, datum, data_words, key_on}
use Rattle.exb_flight.proofs.SimulatedAscents.{data_first, link_there, on_sent}
use Rattle.exb_flight.proofs.Items.{thins_words, items_words}
use Rattle.exb_flight.proofs.WorldPromises.{all_fly}
use Rattle.exb_flight.proofs.KeptPromises.{then_append, stood_promises, step_stands}
use Rattle.exb_world_laws.specs.WorldInput.{Given, Came, Told, given_by, arrivals_at, commands_of, indices_of, basis_with}
use Rattle.exb_world_laws.specs.OneBridge.{FollowsGiven, IsWordOf, NamesGiven}
use Rattle.exb_world_laws.specs.WorldInvariant.{MayStart, MayDo, IsSurely, Kept, StepsKeep}
use Rattle.exb_world_spec.specs.Runs.ReachedWorlds.{HasVid, HasVidIn}
use Rattle.exb_world_laws.proofs.DecidedJobs.{IsJust, AreJust, journal_just}
use Rattle.exb_world_laws.proofs.LongerHistories.{HasCommands, longer, bridge_stays, table_stays, flat_stays, surely_stays, pvids_after}
use Rattle.exb_world_laws.proofs.JobOrder.{decided_of}
use Rattle.exb_world_laws.proofs.NamedArrivals.{arrivals_append, arrivals_here, arrivals_other, length_here, NamesNone, names_quiet, names_raised, names_ignored, names_local, names_gone_on, names_taken}
use Rattle.exb_world_laws.proofs.QuietLinks.{data_less, Has, above_has, moves_has, comes_has, control_has, beat_has}
use Rattle.exb_world_laws.proofs.UpwardFrames.{Ascends, ignores, raises, ascends, IsTaken, taken_in, gone_on}

-- ---- more commands
pub commands_append : (g more : List Given) → commands_of (g ++ more) ≡ commands_of g ++ commands_of more
commands_append [] more = refl
commands_append (Came a ∷ g) more = commands_append g more
commands_append (Told c ∷ g) more = ap (λ (cs : List Command). c ∷ cs) (commands_append g more)

pub basis_more : (i : Basis) (g more : List Given) → basis_with i (g ++ more) ≡ longer (basis_with i g) (commands_of more)
basis_more i g more = ap (λ (cs : List Command). record i { commands = cs }) (commands_append g more)

module _ (i : Basis) (cs : List Command) where
  of_longer : (j : Job) → IsOf i j → IsOf (longer i cs) j
  of_longer (job.Opening n) k = tt
  of_longer (job.AutomaticUp p) k = tt
  of_longer (job.Ordered n c) k = numbered_more i.commands cs n c k

  pub all_longer : (js : List Job) → AreOf i js → AreOf (longer i cs) js
  all_longer js k = each_change (IsOf i) (IsOf (longer i cs)) js of_longer k

  work_longer : (o : Option Work) → WorkGood i o → WorkGood (longer i cs) o
  work_longer None k = tt
  work_longer (Some v) k = record { deletes = k.deletes; creates = k.creates; command = of_longer v.job k.command }

  facts_longer : (t : Shape) (f : Flight) → HasCommands i f.history → Facts t i f → Facts t (longer i cs) f
  facts_longer t f has k =
      record {
        stands = k.stands;
        knows = k.knows;
        work = work_longer f.system.state.work k.work;
        queue = all_longer f.system.state.queue k.queue;
        force = bridge_stays i cs f.history has ∙ k.force;
        channels = k.channels;
        ways = k.ways;
        tops = k.tops;
        words = k.words;
        sources = k.sources;
        asked = k.asked;
        ups = k.ups;
        answered = k.answered;
        serials = k.serials;
        even = λ q ext. k.even q ext ∙ sym (flat_stays i cs f.history q has);
      }

  -- a world that stands still stands with more commands
  pub stood_longer : (t : Shape) (l : Limits) (w : World) (h : History) (left : List Left) → HasCommands i h → Stood t l i w h left → Stood t l (longer i cs) w h left
  stood_longer t l w h left has k =
      record {
        sound = k.sound;
        flight = k.flight;
        facts = facts_longer t k.flight (subst (HasCommands i) (sym k.shows.history) has) k.facts;
        shows = record {
          system = k.shows.system;
          down = k.shows.down;
          up = k.shows.up;
          history = k.shows.history;
          left = k.shows.left;
          learned = k.shows.learned ∙ sym (table_stays i cs h has);
        };
      }

-- ---- what a world that keeps all that has
-- What was given and what happened, as a step goes on from it: the world follows what was given, names are given, and what is in force
-- is of the history.
pub record IsMet (t : Shape) (i : Basis) (w : World) (g : List Given) (h : History) : Type 0 where
  pub follows : FollowsGiven w g
  pub names : NamesGiven t w g h
  pub entered : EachEvent (IsSurely (basis_with i g) (λ p. arrivals_at p g)) h
  pub bridge : bridge_after (basis_with i g) h ≡ w.control.bridge
  pub commands : HasCommands (basis_with i g) h

has_commands : (t : Shape) (l : Limits) (i : Basis) (h : History) → EachEvent (IsJust t l i) h → HasCommands i h
has_commands t l i [] k = tt
has_commands t l i (e ∷ h) k = (has_commands t l i h k.0, k.1.has)

module _ (t : Shape) (l : Limits) (i : Basis) (w : World) (g : List Given) (h : History) (left : List Left) (k : Kept t l i w g h left) where
  pub kept_just : AreJust t l (basis_with i g) h w.control.bridge
  unfolding bridge_after
  kept_just =
      let start : AreJust t l (basis_with i g) [] i.start = record { bridge = none; each = tt } in
      let just = journal_just t l (basis_with i g) k.journal k.tells.decided i.start [] (decided_of t l i w g (jobs_in k.journal) k.downs k.tells) k.tells.lines start in
      subst (λ (b : Bridge). AreJust t l (basis_with i g) h b) (sym k.tells.bridge) (subst (λ (z : History). AreJust t l (basis_with i g) z (kept t l i.start k.tells.decided)) (sym k.is) just)
    where
      none : bridge_after (basis_with i g) [] ≡ i.start
      none = refl

  pub kept_commands : HasCommands (basis_with i g) h
  kept_commands = has_commands t l (basis_with i g) h kept_just.each

  pub kept_pvids : HasPvids i.start → HasPvids w.control.bridge
  kept_pvids start = subst HasPvids kept_just.bridge (pvids_after (basis_with i g) start k.vids h)

  pub its_own : IsMet t i w g h
  its_own = record { follows = k.follows; names = k.names; entered = k.entered; bridge = kept_just.bridge; commands = kept_commands }

  -- the upward words of its flight
  flight_ups : (n : ℕ) → words_of (k.stood.flight.up n) ≡ data_words (w.up n)
  flight_ups n = sym (thins_words _ _ (k.stood.shows.up n)) ∙ items_words (key_on t w.control.held Up n) (w.up n)

  pub up_of : (n : ℕ) (x : LinkFrame) → IsLink t n → first_data (w.up n) ≡ Some x → IsUp t k.stood.flight.system n (datum x)
  up_of n x link found =
      each_first (IsUp t k.stood.flight.system n) (k.stood.flight.up n) (datum x) (data_words (without_data (w.up n))) (flight_ups n ∙ (data_first (w.up n) x found).1) (k.stood.facts.ups n link)

-- ---- events of no arrival
jobs_none : (es : List Event) → Each NamesNone (jobs_in es)
jobs_none [] = tt
jobs_none (event.Relay p n t f ∷ es) = jobs_none es
jobs_none (event.Ignored p n ∷ es) = jobs_none es
jobs_none (event.Tick seconds ∷ es) = jobs_none es
jobs_none (event.Commit n ∷ es) = (tt, jobs_none es)
jobs_none (event.Refuse n x ∷ es) = (tt, jobs_none es)
jobs_none (event.Up p ∷ es) = (tt, jobs_none es)
jobs_none (event.NoUp p x ∷ es) = (tt, jobs_none es)
jobs_none (event.Settled ∷ es) = jobs_none es

only_jobs : (es : List Event) → jobs_in es ≡ es → Each NamesNone es
only_jobs es e = subst (Each NamesNone) e (jobs_none es)

no_events : (es : List Event) → es ≡ [] → Each NamesNone es
no_events es e = subst (Each NamesNone) (sym e) tt

surely_none : (i : Basis) (arrivals : ℕ → List Arrival) (h : History) (e : Event) → NamesNone e → IsSurely i arrivals h e
surely_none i arrivals h (event.Relay p n moment f) k = absurd k
surely_none i arrivals h (event.Ignored p n) k = absurd k
surely_none i arrivals h (event.Tick seconds) k = tt
surely_none i arrivals h (event.Commit n) k = tt
surely_none i arrivals h (event.Refuse n x) k = tt
surely_none i arrivals h (event.Up p) k = tt
surely_none i arrivals h (event.NoUp p x) k = tt
surely_none i arrivals h event.Settled k = tt

surely_all_none : (i : Basis) (arrivals : ℕ → List Arrival) (es : List Event) (h : History) → Each NamesNone es → EachEvent (IsSurely i arrivals) h → EachEvent (IsSurely i arrivals) (h then es)
surely_all_none i arrivals [] h k old = old
surely_all_none i arrivals (e ∷ es) h k old = surely_all_none i arrivals es (e ∷ h) k.1 (old, surely_none i arrivals h e k.0)

-- ---- what was given is followed
pub range_more : (n : ℕ) → range_with_len 1 (n + 1) ≡ range_with_len 1 n ++ (n + 1) ∷ []
range_more n = sym (map_itself (range_with_len 1 (n + 1))) ∙ (map-range_with_len_more (λ (x : ℕ). x) 1 n (n + 1) (omega arith) ∙ ap (λ (xs : List ℕ). xs ++ (n + 1) ∷ []) (map_itself (range_with_len 1 n)))
  where
    map_itself : (xs : List ℕ) → map (λ (x : ℕ). x) xs ≡ xs
    map_itself [] = refl
    map_itself (x ∷ xs) = ap (λ (ys : List ℕ). x ∷ ys) (map_itself xs)

indices_more : (xs : List Arrival) (a : Arrival) → indices_of (xs ++ a ∷ []) ≡ indices_of xs ++ a.index ∷ []
indices_more [] a = refl
indices_more (x ∷ xs) a = ap (λ (ys : List ℕ). x.index ∷ ys) (indices_more xs a)

-- the parts of it that a step renews
pub record IsRenewed (t : Shape) (i : Basis) (w v : World) (g more : List Given) (h : History) (es : List Event) : Type 0 where
  pub indexed : (p : ℕ) → indices_of (arrivals_at p (g ++ more)) ≡ range_with_len 1 (length (arrivals_at p (g ++ more)))
  pub next : (p : ℕ) → v.next p ≡ length (arrivals_at p (g ++ more)) + 1
  pub names : NamesGiven t v (g ++ more) (h then es)
  pub entered : EachEvent (IsSurely (basis_with i (g ++ more)) (λ p. arrivals_at p (g ++ more))) (h then es)

-- Of the world it is enough that it is kept after anything that was given and happened (`g0`, `h0`).
module _ (t : Shape) (l : Limits) (i0 : Basis) (start : MayStart t l i0) (round : TagRoundTrip) (words : SendsAreWords) (leave : SendsLeaveAsFlat) (w : World) (g0 : List Given) (h0 : History) (left : List Left) (k : Kept t l i0 w g0 h0 left) (i : Basis) (g : List Given) (h : History) (m : IsMet t i w g h) where
  -- the arrivals so far stay where they are
  entered_more : (more : List Given) → EachEvent (IsSurely (basis_with i (g ++ more)) (λ p. arrivals_at p (g ++ more))) h
  entered_more more =
      subst (λ (j : Basis). EachEvent (IsSurely j (λ p. arrivals_at p (g ++ more))) h) (sym (basis_more i g more))
      (surely_stays (basis_with i g) (commands_of more) (λ p. arrivals_at p g) (λ p. arrivals_at p (g ++ more))
      (λ p n a e. ap (λ (xs : List Arrival). numbered xs n) (arrivals_append p g more) ∙ numbered_more (arrivals_at p g) (arrivals_at p more) n a e) h m.commands m.entered)

  -- and what is in force is of the history
  bridge_more : (more : List Given) → bridge_after (basis_with i (g ++ more)) h ≡ w.control.bridge
  bridge_more more =
      ap (λ (j : Basis). bridge_after j h) (basis_more i g more) ∙ (bridge_stays (basis_with i g) (commands_of more) h m.commands ∙ m.bridge)

  -- nothing of arrivals happens
  quiet_renewed : (v : World) (more : List Given) (es : List Event) → ((r : ℕ) → arrivals_at r (g ++ more) ≡ arrivals_at r g) → Has (λ n. data_words (w.up n)) w.next v → Each NamesNone es → IsRenewed t i w v g more h es
  quiet_renewed v more es same has none =
      record {
        indexed = λ p. subst (λ (xs : List Arrival). indices_of xs ≡ range_with_len 1 (length xs)) (sym (same p)) (m.follows.indexed p);
        next = λ p. has.awaits p ∙ (m.follows.next p ∙ ap (λ (xs : List Arrival). length xs + 1) (sym (same p)));
        names = names_quiet t w v g more h es has.ups same none m.names;
        entered = surely_all_none (basis_with i (g ++ more)) (λ p. arrivals_at p (g ++ more)) es h none (entered_more more);
      }

  none_given : (r : ℕ) → arrivals_at r (g ++ []) ≡ arrivals_at r g
  none_given r = ap (arrivals_at r) (append-nil g)

  command_given : (c : Command) (r : ℕ) → arrivals_at r (g ++ Told c ∷ []) ≡ arrivals_at r g
  command_given c r = arrivals_append r g (Told c ∷ []) ∙ append-nil (arrivals_at r g)

  -- the event of a frame that comes to the bridge
  surely_arrival : (more : List Given) (y x : Arrival) → numbered (arrivals_at y.port (g ++ more)) y.index ≡ Some x → x.bytes ≡ y.bytes → IsSurely (basis_with i (g ++ more)) (λ p. arrivals_at p (g ++ more)) h (arrival_event w.control.bridge y)
  surely_arrival more y x there bytes =
      let b : bridge_after (basis_with i (g ++ more)) h ≡ w.control.bridge = bridge_more more in
      elim (cases_Bool (is_relayed w.control.bridge y.port y.bytes)) [
        | inl e ↦ rw e (ap (λ (z : Bridge). is_relayed z y.port y.bytes) b ∙ e)
        | inr e ↦ rw e (x, there, ap (λ (z : Bridge). is_relayed z y.port x.bytes) b ∙ (ap (is_relayed w.control.bridge y.port) bytes ∙ e))
      ]

  -- ---- an arrival
  module _ (a : Arrival) (index : a.index ≡ w.next a.port) where
    as_given : a.index ≡ length (arrivals_at a.port g) + 1
    as_given = index ∙ m.follows.next a.port

    indexed_more : (p : ℕ) → indices_of (arrivals_at p (g ++ Came a ∷ [])) ≡ range_with_len 1 (length (arrivals_at p (g ++ Came a ∷ [])))
    indexed_more p =
        elim (cases_eq a.port p) [
          | inr other ↦ subst (λ (xs : List Arrival). indices_of xs ≡ range_with_len 1 (length xs)) (sym (arrivals_other g a p other)) (m.follows.indexed p)
          | inl same ↦
              let most : ℕ = length (arrivals_at p g) in
              let next : a.index ≡ most + 1 = as_given ∙ ap (λ (x : ℕ). length (arrivals_at x g) + 1) same in
              ap indices_of (arrivals_here g a p same)
              ∙ (indices_more (arrivals_at p g) a
              ∙ (ap (λ (xs : List ℕ). xs ++ a.index ∷ []) (m.follows.indexed p)
              ∙ (ap (λ (x : ℕ). range_with_len 1 most ++ x ∷ []) next ∙ (sym (range_more most) ∙ ap (range_with_len 1) (sym (length_here g a p same))))))
        ]

    next_more : (v : World) → ((p : ℕ) → v.next p ≡ at a.port (w.next a.port + 1) w.next p) → (p : ℕ) → v.next p ≡ length (arrivals_at p (g ++ Came a ∷ [])) + 1
    next_more v awaits p =
        awaits p ∙ elim (cases_eq p a.port) [
          | inl same ↦ rw (eq-eqb p a.port same) (ap (λ (x : ℕ). x + 1) (m.follows.next a.port ∙ (ap (λ (x : ℕ). length (arrivals_at x g) + 1) (sym same) ∙ sym (length_here g a p (sym same)))))
          | inr other ↦ rw (ne_eqb p a.port other) (m.follows.next p ∙ ap (λ (xs : List Arrival). length xs + 1) (sym (arrivals_other g a p (λ e. other (sym e)))))
        ]

    -- it is the last of its port
    last_given : numbered (arrivals_at a.port (g ++ Came a ∷ [])) a.index ≡ Some a
    last_given = ap (λ (xs : List Arrival). numbered xs a.index) (arrivals_here g a a.port refl) ∙ (ap (numbered (arrivals_at a.port g ++ a ∷ [])) as_given ∙ numbered_last (arrivals_at a.port g) a)

  -- an extender ignores what the bridge wouldn't relay
  refused_kind : (z : Seen) → is_refused_kind z ≡ true → is_relayed_kind z ≡ false
  refused_kind seen.Short e = refl
  refused_kind seen.Long e = refl
  refused_kind seen.Reserved e = refl
  refused_kind seen.BadTag e = sym e
  refused_kind seen.Plain e = sym e
  refused_kind (seen.Priority pcp dei) e = sym e
  refused_kind (seen.Tagged pcp dei v) e = sym e

  and_none : (b : Bool) → (b && false) ≡ false
  and_none true = refl
  and_none false = refl

  not_relayed : (p : ℕ) (f : List ℕ) → is_external t p ≡ true → 64 ≤ p → is_ignored ((w.far (device p)).tables.own (port_number p)) f ≡ true → is_relayed w.control.bridge p f ≡ false
  not_relayed p f ext deep why =
      let own : ℕ = (w.far (device p)).tables.own (port_number p) in
      elim (cases_Bool (is_refused_kind (kind_of f))) [
        | inl e ↦ ap (λ (b : Bool). w.control.bridge.present p && b) (refused_kind (kind_of f) e) ∙ and_none (w.control.bridge.present p)
        | inr e ↦
            let zero : own ≡ 0 = eqb-true own 0 (left_true (own == 0) (is_refused_kind (kind_of f)) why e) in
            let its : (tables_of k.stood.flight).own p ≡ own = ap (λ (y : System). (y.tables (device p)).own (p % 64 + 1)) k.stood.shows.system in
            let none : nat_lt 0 ((tables_of k.stood.flight).own p) ≡ false = le-ltb 0 ((tables_of k.stood.flight).own p) (omega (arith, its, zero)) in
            let outer : is_extended t p ≡ true = and_from (nat_le 64 p) (is_external t p) (le-leb 64 p deep) ext in
            let gone : w.control.bridge.present p ≡ false =
            subst (λ (y : System). y.state.bridge.present p ≡ false) k.stood.shows.system (not_present t l (basis_with i0 g0) start.setting k.stood.flight k.stood.facts p outer none) in
            ap (λ (b : Bool). b && is_relayed_kind (kind_of f)) gone
      ]
    where
      left_true : (x y : Bool) → (x || y) ≡ true → y ≡ false → x ≡ true
      left_true true y e none = refl
      left_true false y e none = sym none ∙ e

  -- ---- by kind
  arrive_renewed : (a : Arrival) → MayDo t l w (Arrive a) → IsRenewed t i w (done_by t l (Arrive a) w).world g (Came a ∷ []) h (done_by t l (Arrive a) w).events
  arrive_renewed a may =
      let ext : is_external t a.port ≡ true = may.may.can.external in
      let index : a.index ≡ w.next a.port = may.may.can.next in
      let more : List Given = Came a ∷ [] in
      elim (cases_lt a.port 64) [
        | inl low ↦
            let v : World = (comes t a (counted a w)).world in
            let start_has : Has (λ n. data_words (w.up n)) (at a.port (w.next a.port + 1) w.next) (counted a w) = record { ups = λ n. refl; awaits = λ p. refl } in
            let has = comes_has (λ n. data_words (w.up n)) (at a.port (w.next a.port + 1) w.next) t l a (counted a w) start_has in
            let told : (comes t a (counted a w)).events ≡ arrival_event w.control.bridge a ∷ [] = comes_events t (counted a w) a in
            let R : List Event → Type 0 = λ es. IsRenewed t i w v g more h es in
            let done : R (arrival_event w.control.bridge a ∷ []) = record {
              indexed = indexed_more a index;
              next = next_more a index v has.awaits;
              names = names_local t w v g h w.control.bridge a ext low (as_given a index) has.ups m.names;
              entered = (entered_more more, surely_arrival more a a (last_given a index) refl);
            } in
            rw (lt-ltb a.port 64 low) (subst R (sym told) done)
        | inr deep ↦ by_ascent a ext index deep (done_by t l (Arrive a) w).world (done_by t l (Arrive a) w).events (ascends t l start.setting round w k.stood.sound a may.may.has ext deep)
      ]
    where
      by_ascent : (a : Arrival) → is_external t a.port ≡ true → a.index ≡ w.next a.port → 64 ≤ a.port → (v : World) (es : List Event) → Ascends t w v a es → IsRenewed t i w v g (Came a ∷ []) h es
      by_ascent a ext index deep v es (raises r) =
          let R : List Event → Type 0 = λ xs. IsRenewed t i w v g (Came a ∷ []) h xs in
          let done : R [] = record {
            indexed = indexed_more a index;
            next = next_more a index v r.has.awaits;
            names = names_raised t start.setting.tree w v g h a r.bytes ext deep (as_given a index) r.clean r.has.ups m.names;
            entered = entered_more (Came a ∷ []);
          } in
          subst R (sym r.events) done
      by_ascent a ext index deep v es (ignores r) =
          let R : List Event → Type 0 = λ xs. IsRenewed t i w v g (Came a ∷ []) h xs in
          let done : R (event.Ignored a.port a.index ∷ []) = record {
            indexed = indexed_more a index;
            next = next_more a index v r.has.awaits;
            names = names_ignored t w v g h a ext deep (as_given a index) r.has.ups m.names;
            entered = (
              entered_more (Came a ∷ []),
              (a, last_given a index, ap (λ (b : Bridge). is_relayed b a.port a.bytes) (bridge_more (Came a ∷ [])) ∙ not_relayed a.port a.bytes ext deep r.why),
            );
          } in
          subst R (sym r.events) done

  -- as it is
  pub same_has : Has (λ n. data_words (w.up n)) w.next w
  same_has = record { ups = λ n. refl; awaits = λ p. refl }

  -- a word from above
  fall_renewed : (n : ℕ) (o : Option LinkFrame) (rest : List LinkFrame) → (takes_any t l n Down o rest w).events ≡ [] → IsRenewed t i w (takes_any t l n Down o rest w).world g [] h (takes_any t l n Down o rest w).events
  fall_renewed n None rest none = quiet_renewed w [] [] none_given same_has tt
  fall_renewed n (Some x) rest none =
      let u : World = with_words n Down rest w in
      quiet_renewed (takes_from_above t n x u).world [] (takes_from_above t n x u).events none_given
      (above_has (λ m. data_words (w.up m)) w.next t n x u (record { ups = λ m. refl; awaits = λ p. refl })) (no_events (takes_from_above t n x u).events none)

  -- the arrival of a word that was taken
  numbered_pair : (xs : List Arrival) (n : ℕ) (y : ℕ × List ℕ) → numbered (map (λ (a : Arrival). (a.moment, a.bytes)) xs) n ≡ Some y → (a : Arrival) × (numbered xs n ≡ Some a) × (a.bytes ≡ y.1)
  numbered_pair xs zero y e = absurd (let z : None ≡ Some y = e in cc)
  numbered_pair [] (suc n) y e = absurd (let z : None ≡ Some y = e in cc)
  numbered_pair (a ∷ xs) (suc zero) y e = (a, refl, ap (λ (z : ℕ × List ℕ). z.1) (some_same e))
    where
      some_same : {x z : ℕ × List ℕ} → Some x ≡ Some z → x ≡ z
      some_same q = cc
  numbered_pair (a ∷ xs) (suc (suc n)) y e = numbered_pair xs (suc n) y e

  rise_renewed : (n : ℕ) → MayDo t l w (Carry n Up) → (x : LinkFrame) → first_data (w.up n) ≡ Some x → IsRenewed t i w (done_by t l (Carry n Up) w).world g [] h (done_by t l (Carry n Up) w).events
  rise_renewed n may x found =
      let link : IsLink t n = link_there t n may.may.can.0 in
      let over : Over t n (device (datum x).port) = (up_of t l i0 w g0 h0 left k n x link found).below in
      let v : World = (done_by t l (Carry n Up) w).world in
      let same : NamesGiven t w (g ++ []) h = subst (λ (j : List Given). NamesGiven t w j h) (sym (append-nil g)) m.names in
      let R : List Event → Type 0 = λ es. IsRenewed t i w v g [] h es in
      let indexed : (p : ℕ) → indices_of (arrivals_at p (g ++ [])) ≡ range_with_len 1 (length (arrivals_at p (g ++ []))) = λ p.
      subst (λ (xs : List Arrival). indices_of xs ≡ range_with_len 1 (length xs)) (sym (none_given p)) (m.follows.indexed p) in
      let next : ((p : ℕ) → v.next p ≡ w.next p) → (p : ℕ) → v.next p ≡ length (arrivals_at p (g ++ [])) + 1 = λ awaits p.
      awaits p ∙ (m.follows.next p ∙ ap (λ (xs : List Arrival). length xs + 1) (sym (none_given p))) in
      elim (cases_lt (on t n) 64) [
        | inl low ↦
            let clean = (stood_promises t l (basis_with i0 g0) start.setting w h0 left k.stood).clean.up n link in
            let taken : IsTaken t w v n x (done_by t l (Carry n Up) w).events = taken_in t l w n x low found k.stamped clean in
            let s : Stamp = taken.stamp in
            let y : Arrival = arrival_by s.port s (stripped x.bytes) in
            let its : IsWordOf t (g ++ []) n (datum x) = (subst (Each (IsWordOf t (g ++ []) n)) (data_first (w.up n) x found).1 (same.words n link)).0 in
            let of : IsWordOf t (g ++ []) n (datum_by x.bytes (Some s)) = subst (λ (o : Option Stamp). IsWordOf t (g ++ []) n (datum_by x.bytes o)) taken.stamped its in
            let a = numbered_pair (arrivals_at s.port (g ++ [])) s.index (s.moment, stripped x.bytes) of.record_of in
            let done : R (arrival_event w.control.bridge y ∷ []) = record {
              indexed = indexed;
              next = next taken.has.awaits;
              names = names_taken t start.setting.tree w v (g ++ []) h w.control.bridge n x s link low found taken.stamped over taken.has.ups same;
              entered = (entered_more [], surely_arrival [] y a.0 a.1 a.2);
            } in
            subst R (sym taken.events) done
        | inr deep ↦
            let f : Flight = k.stood.flight in
            let u : World = with_words n Up (without_data (w.up n)) w in
            let apart : device (on t n) ≢ n = λ e. no_circle t start.setting.tree n link deep (itself e) in
            let sent = on_sent t l (basis_with i0 g0) start.setting round words leave w h0 left f k.stood.facts k.stood.shows n may.may.can.0 x found (first_bytes n x found may.may.bytes.ups) (kept_pvids t l i0 w g0 h0 left k start.pvids) k.stood.sound deep u refl in
            let gone = gone_on t l w n x deep apart found sent in
            let done : R [] = record {
              indexed = indexed;
              next = next gone.1.awaits;
              names = names_gone_on t start.setting.tree w v (g ++ []) h n x link deep found over gone.1.ups same;
              entered = entered_more [];
            } in
            subst R (sym gone.0) done
      ]
    where
      first_bytes : (n : ℕ) (x : LinkFrame) → first_data (w.up n) ≡ Some x → ((m : ℕ) → machine.Each (λ (y : LinkFrame). IsBytes y.bytes) (w.up m)) → IsBytes x.bytes
      first_bytes n x found all = each_get (λ (y : LinkFrame). IsBytes y.bytes) (filter is_data (w.up n)) 0 x (each_filter (λ (y : LinkFrame). IsBytes y.bytes) is_data (w.up n) (all n)) found

  -- a control word that is delivered
  delivered_renewed : (n : ℕ) (way : Way) (o : Option LinkFrame) (rest : List LinkFrame) → ((m : ℕ) → data_words ((with_words n way rest w).up m) ≡ data_words (w.up m)) → ((x : LinkFrame) → o ≡ Some x → is_control x ≡ true) →
      Each NamesNone (takes_any t l n way o rest w).events → IsRenewed t i w (takes_any t l n way o rest w).world g [] h (takes_any t l n way o rest w).events
  delivered_renewed n way None rest same control none = quiet_renewed w [] [] none_given same_has tt
  delivered_renewed n Up (Some x) rest same control none =
      let u : World = with_words n Up rest w in
      quiet_renewed (takes_any t l n Up (Some x) rest w).world [] (takes_any t l n Up (Some x) rest w).events none_given
      (control_has (λ m. data_words (w.up m)) w.next t l n x u (control x refl) (record { ups = same; awaits = λ p. refl })) none
  delivered_renewed n Down (Some x) rest same control none =
      let u : World = with_words n Down rest w in
      quiet_renewed (takes_any t l n Down (Some x) rest w).world [] (takes_any t l n Down (Some x) rest w).events none_given
      (above_has (λ m. data_words (w.up m)) w.next t n x u (record { ups = same; awaits = λ p. refl })) none

  -- fewer control words on a link
  less_words : (n : ℕ) (way : Way) (ws : List LinkFrame) → data_words ws ≡ data_words (words_on n way w) → (m : ℕ) → data_words ((with_words n way ws w).up m) ≡ data_words (w.up m)
  less_words n Up ws e m = elim (cases_eq m n) [ inl z ↦ rw (eq-eqb m n z) (e ∙ ap (λ (x : ℕ). data_words (w.up x)) (sym z)) | inr z ↦ rw (ne_eqb m n z) refl ]
  less_words n Down ws e m = refl

  rest_words : (keep : Bool) (ws : List LinkFrame) (j : ℕ) → data_words (rest_of keep ws j) ≡ data_words ws
  rest_words true ws j = refl
  rest_words false ws j = data_less ws j

  control_renewed : (n : ℕ) (way : Way) (j : ℕ) (keep : Bool) → IsRenewed t i w (done_by t l (Control n way j keep) w).world g [] h (done_by t l (Control n way j keep) w).events
  unfolding stepped
  control_renewed n way j keep =
      let ws : List LinkFrame = words_on n way w in
      let tells = steps_tell_by_kind t l w (Control n way j keep) in
      let es : List Event = (done_by t l (Control n way j keep) w).events in
      let none : Each NamesNone es = elim (cases_Bool (is_to_bridge t n way)) [ inl e ↦ only_jobs es (tells.bridge e) | inr e ↦ no_events es (tells.other e) ] in
      delivered_renewed n way (control_at ws j) (rest_of keep ws j) (less_words n way (rest_of keep ws j) (rest_words keep ws j)) (λ x e. control_is ws j x e) none

  pub step_renewed : (step : Step) → MayDo t l w step → IsRenewed t i w (done_by t l step w).world g (given_by step) h (done_by t l step w).events
  unfolding stepped
  step_renewed (Arrive a) may = arrive_renewed a may
  step_renewed (Carry n Up) may = by_word (first_data (w.up n)) refl
    where
      by_word : (o : Option LinkFrame) → first_data (w.up n) ≡ o → IsRenewed t i w (done_by t l (Carry n Up) w).world g [] h (done_by t l (Carry n Up) w).events
      by_word (Some x) e = rise_renewed n may x e
      by_word None e =
          let R : Option LinkFrame → Type 0 = λ o. IsRenewed t i w (takes_any t l n Up o (without_data (w.up n)) w).world g [] h (takes_any t l n Up o (without_data (w.up n)) w).events in
          subst R (sym e) (quiet_renewed w [] [] none_given same_has tt)
  step_renewed (Carry n Down) may = fall_renewed n (first_data (w.down n)) (without_data (w.down n)) ((steps_tell_by_kind t l w (Carry n Down)).other refl)
  step_renewed (Control n way j keep) may = control_renewed n way j keep
  step_renewed (Lose n way j) may =
      quiet_renewed (with_words n way (without_control (words_on n way w) j) w) [] [] none_given
      (record { ups = less_words n way (without_control (words_on n way w) j) (data_less (words_on n way w) j); awaits = awaits_same n way }) tt
    where
      awaits_same : (n : ℕ) (way : Way) → (p : ℕ) → (with_words n way (without_control (words_on n way w) j) w).next p ≡ w.next p
      awaits_same n Up p = refl
      awaits_same n Down p = refl
  step_renewed Beat may = quiet_renewed (done_by t l Beat w).world [] (done_by t l Beat w).events none_given (beat_has (λ n. data_words (w.up n)) w.next t l w same_has) (no_events (done_by t l Beat w).events (steps_tell_by_kind t l w Beat))
  step_renewed (Tick seconds) may = quiet_renewed (done_by t l (Tick seconds) w).world [] (event.Tick seconds ∷ []) none_given (record { ups = λ n. refl; awaits = λ p. refl }) (tt, tt)
  step_renewed (Order c) may =
      quiet_renewed (done_by t l (Order c) w).world (Told c ∷ []) (done_by t l (Order c) w).events (command_given c) (moves_has (λ n. data_words (w.up n)) w.next t l (ordered (decide t l) c w.control) w same_has)
      (only_jobs (done_by t l (Order c) w).events (steps_tell_by_kind t l w (Order c)))
  step_renewed Mark may = quiet_renewed w [] (event.Settled ∷ []) none_given same_has (tt, tt)

-- ---- a step
pub ordered_given : (step : Step) → ordered_by step ≡ commands_of (given_by step)
ordered_given (Arrive a) = refl
ordered_given (Carry n way) = refl
ordered_given (Control n way j keep) = refl
ordered_given (Lose n way j) = refl
ordered_given Beat = refl
ordered_given (Tick seconds) = refl
ordered_given (Order c) = refl
ordered_given Mark = refl

after_length : (n : ℕ) (cs : List Command) → given_after n cs ≡ n + length cs
after_length n [] = omega arith
after_length n (c ∷ cs) = let e = after_length (n + 1) cs in omega (arith, e)

after_none : (cs : List Command) → given_after 0 cs ≡ length cs
after_none cs = let e = after_length 0 cs in omega (arith, e)

pub step_kept : TagRoundTrip → SendsAreWords → SendsLeaveAsFlat → StepsTell → StepsKeep
unfolding stepped
step_kept round words leave law t l i start w g h left k step may =
    let v : World = (done_by t l step w).world in
    let es : List Event = (done_by t l step w).events in
    let lefts : List Left = (done_by t l step w).left in
    let more : List Given = given_by step in
    let j : List Given = g ++ more in
    let cs : List Command = commands_of more in
    let has : HasCommands (basis_with i g) h = kept_commands t l i w g h left k in
    let stood : Stood t l (basis_with i j) w h left =
    subst (λ (b : Basis). Stood t l b w h left) (sym (basis_more i g more)) (stood_longer (basis_with i g) cs t l w h left has k.stood) in
    let fly : MayFly t l (basis_with i j) w step = record { may = may.may; next = next_command step; pvids = kept_pvids t l i w g h left k start.pvids; absent = start.absent } in
    let stands : Stood t l (basis_with i j) v (h then es) (left ++ lefts) =
    step_stands round words leave (all_fly round words leave) t l (basis_with i j) start.setting w h left stood step fly in
    let one : StaysSound t l (ordered_by step) w v es = steps_stay_sound round t l start.setting w step k.stood.sound may.may in
    let all : List Job = first_jobs t ++ jobs_after 0 (commands_of g) in
    let told = follows_telling t l i.start law start.setting.tree all (jobs_in k.journal) k.downs (ordered_by step) es w v one.follows k.tells in
    let given : w.control.given ≡ given_after 0 (commands_of g) = k.follows.commands ∙ sym (after_none (commands_of g)) in
    let jobs : all ++ jobs_after w.control.given (ordered_by step) ≡ first_jobs t ++ jobs_after 0 (commands_of j) =
    ap (λ (xs : List Command). all ++ jobs_after w.control.given xs) (ordered_given step)
    ∙ (ap (λ (n : ℕ). all ++ jobs_after n cs) given
    ∙ (append_assoc (first_jobs t) (jobs_after 0 (commands_of g)) (jobs_after (given_after 0 (commands_of g)) cs)
    ∙ (ap (λ (js : List Job). first_jobs t ++ js) (sym (jobs_more 0 (commands_of g) cs)) ∙ ap (λ (xs : List Command). first_jobs t ++ jobs_after 0 xs) (sym (commands_append g more))))) in
    let renewed : IsRenewed t i w v g more h es = step_renewed t l i start round words leave w g h left k i g h (its_own t l i w g h left k) step may in
    let downs : List ℕ = k.downs ++ told.by_step.told.more in
    let tells : Tells t l i.start (first_jobs t ++ jobs_after 0 (commands_of j)) (jobs_in (k.journal ++ es)) downs v.control =
    subst (λ (js : List Job). Tells t l i.start js (jobs_in (k.journal ++ es)) downs v.control) jobs
    (subst (λ (xs : List Event). Tells t l i.start (all ++ jobs_after w.control.given (ordered_by step)) xs downs v.control) (sym (filter-append is_of_job k.journal es)) told.by_step.told.tells) in
    record {
      journal = k.journal ++ es;
      is = ap (λ (z : History). z then es) k.is ∙ sym (then_append [] k.journal es);
      stood = stands;
      stamped = step_stamped t l w step k.stamped;
      follows = record {
        indexed = renewed.indexed;
        next = renewed.next;
        commands =
            told.given
            ∙ (after_length w.control.given (ordered_by step)
            ∙ (ap (λ (xs : List Command). w.control.given + length xs) (ordered_given step)
            ∙ (ap (λ (n : ℕ). n + length cs) k.follows.commands ∙ (sym (length-append (commands_of g) cs) ∙ ap (λ (xs : List Command). length xs) (sym (commands_append g more))))));
      };
      downs = downs;
      tells = tells;
      names = renewed.names;
      entered = renewed.entered;
      vids = subst (Each HasVid) (sym (commands_append g more)) (each_join HasVid (commands_of g) cs k.vids (vid_given step may.vid));
    }
  where
    next_command : (step : Step) → IsNext (basis_with i (g ++ given_by step)) w step
    next_command (Arrive a) = tt
    next_command (Carry n way) = tt
    next_command (Control n way j keep) = tt
    next_command (Lose n way j) = tt
    next_command Beat = tt
    next_command (Tick seconds) = tt
    next_command (Order c) =
        ap (λ (xs : List Command). numbered xs (w.control.given + 1)) (commands_append g (Told c ∷ []))
        ∙ (ap (λ (n : ℕ). numbered (commands_of g ++ c ∷ []) (n + 1)) k.follows.commands ∙ numbered_last (commands_of g) c)
    next_command Mark = tt

    vid_given : (step : Step) → HasVidIn step → Each HasVid (commands_of (given_by step))
    vid_given (Arrive a) vid = tt
    vid_given (Carry n way) vid = tt
    vid_given (Control n way j keep) vid = tt
    vid_given (Lose n way j) vid = tt
    vid_given Beat vid = tt
    vid_given (Tick seconds) vid = tt
    vid_given (Order c) vid = (vid, tt)
    vid_given Mark vid = tt
