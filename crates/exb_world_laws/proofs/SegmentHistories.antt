-- A run that plays an input tells a history that the input allows.
use Rattle.std.proofs.Common.{◌≡◌, ℕ, suc, ◌+◌, ◌==◌, ◌++◌, Bool, true, false, cond, List, [], ◌∷◌, length, map, reverse, Some, refl, ap, sym, ◌∙◌, subst, arith, inl, inr, append_assoc, length-append}
use Rattle.std.specs.Prelude.{MatchBool, filter_map, flat_map, All, IsPermutation}
use Rattle.std.specs.List.{range_with_len}
use Rattle.std.proofs.lemmas.Bool.{cases_Bool}
use Rattle.std.proofs.lemmas.List.{append-nil}
use Rattle.std.proofs.lemmas.List.Elements.{All-cons, All-nil, filter_map-append}
use Rattle.std.proofs.lemmas.List.Sorted.{IsPermutation-trans, IsPermutation-map, IsPermutation-sym, All-permutation}
use Rattle.exb_model.specs.declared.command.Command.{Command}
use Rattle.exb_model.specs.declared.event.Event.{Event}
use Rattle.exb_model.specs.declared.event.Event.TheVariants as event
use Rattle.exb_model.specs.EagerHistory.{with_ups, opening}
use Rattle.exb_model.specs.History.{Basis, History, ◌then◌, command_of}
use Rattle.exb_model.specs.declared.arrival.Arrival.{Arrival}
use Rattle.exb_model.specs.Input.{Input, Segment, Mode, tree_of, bounds_of, segments}
use Rattle.exb_model.specs.Input.{Given as TimedCommand, basis_of as basis_in, arrivals_at as arrivals_in}
use Rattle.exb_model.specs.LegalHistory.{EachEvent, Rise, relays_and_late, IsOfSegment, settled_each, number_of, place_of, of_port, Plays as PlaysSegment, IsDecided, IsInOrder, IsEntered, Legal}
use Rattle.exb_model.specs.Lists.{numbered, Pairwise}
use Rattle.exb_model.specs.Setup.{Limits, IsValid, start_of}
use Rattle.exb_model.specs.Tree.{Shape, is_external, is_extended, opening_ports}
use Rattle.exb_frame.specs.TagValues.{TagRoundTrip}
use Rattle.exb_relay.specs.Laws.{SendsAreWords, SendsLeaveAsFlat}
use Rattle.exb_control_spec.specs.Runs.Journal.{StepsTell}
use Rattle.exb_world_spec.specs.AllowedSteps.{IsSettled}
use Rattle.exb_world_spec.specs.Settling.{run, settled_within}
use Rattle.exb_world_spec.specs.Steps.{Stepped, stepped}
use Rattle.exb_world_spec.specs.Worlds.{World, Step, Arrive, Carry, Control, Lose, Beat, Tick, Order, Mark, Left, first_world}
use Rattle.exb_world_spec.specs.Runs.FrameBytes.{StepsStayWritten}
use Rattle.exb_world_spec.proofs.Rounds.{run_then, rounds_are_steps}
use Rattle.exb_world_spec.specs.Runs.SessionLaws.{IsMove}
use Rattle.exb_world_spec.specs.Runs.Sessions as machine
use Rattle.exb_flight.specs.Items.{Each}
use Rattle.exb_flight.specs.NamedArrivals.{times, firsts}
use Rattle.exb_flight.proofs.KeptPromises.{then_append}
use Rattle.exb_world_laws.specs.WorldInput.{Given, Came, Told, given_by, arrivals_of, arrivals_at, commands_of, indices_of, basis_with}
use Rattle.exb_world_laws.specs.OneBridge.{up_port, IsOfArrival, IsRightly, IsRisen, Stands}
use Rattle.exb_world_laws.specs.WorldInvariant.{MayStart, MayDoAll, given_in, Kept, basis_of}
use Rattle.exb_world_spec.specs.Runs.ReachedWorlds.{HasVid}
use Rattle.exb_world_laws.specs.SettledHistories.{IsOrderly, IsPlayed}
use Rattle.exb_world_laws.specs.SegmentRuns.{seconds_by, seconds_in, IsUnmarked, Plays, nothing_given, marked_each, PlayAll, IsTimely, RunsPlayLegally, IsEager, SettlingPlays}
use Rattle.exb_world_laws.specs.FrameBytes.{MayGoAll}
use Rattle.exb_world_laws.proofs.EagerHistories.{TellsFirst}
use Rattle.exb_world_laws.proofs.FrameBytes.{runs_go_on}
use Rattle.exb_world_laws.proofs.InputOrder.{IsNumberedIn, segments_numbered, in_file_order}
use Rattle.exb_world_laws.proofs.JobOrder.{reverse_then}
use Rattle.exb_world_laws.proofs.InvariantSteps.{commands_append}
use Rattle.exb_world_laws.proofs.SettledHistories.{settled_is_orderly, segments_are_played}
use Rattle.exb_world_laws.proofs.CommandNumbers.{none_permuted, HasCommand, GoOn, go_on, as_many, all_commands, entered_among, relay_on}
use Rattle.exb_world_laws.proofs.Opening.{only_rises, each_before, ups_are, of_segment}
use Rattle.exb_world_laws.proofs.Permutations.{each_new, named_once, none_told}
use Rattle.exb_world_laws.proofs.Setups.{setups_may_start}
use Rattle.exb_world_laws.proofs.OneBridge.{begins_kept, kept_stands, runs_kept}
use Rattle.exb_world_laws.proofs.Ticks.{TellsTime, run_time}

-- ---- lists
pub all_of : {A : Type 0} (P : A → Type 0) (xs : List A) → Each P xs → All P xs
all_of P [] k = All-nil P
all_of P (x ∷ xs) k = All-cons P x xs k.0 (all_of P xs k.1)

each_of : {A : Type 0} (P : A → Type 0) (xs : List A) → All P xs → Each P xs
each_of P [] all = tt
each_of P (x ∷ xs) all = (all 0 x (omega arith), each_of P xs (λ k d h. all (suc k) d (omega (arith, h))))

each_both : {A : Type 0} (P : A → Type 0) (xs ys : List A) → Each P xs → Each P ys → Each P (xs ++ ys)
each_both P [] ys k j = j
each_both P (x ∷ xs) ys k j = (k.0, each_both P xs ys k.1 j)

arrivals_both : (g more : List Given) → arrivals_of (g ++ more) ≡ arrivals_of g ++ arrivals_of more
arrivals_both [] more = refl
arrivals_both (Came a ∷ g) more = ap (λ (xs : List Arrival). a ∷ xs) (arrivals_both g more)
arrivals_both (Told c ∷ g) more = arrivals_both g more

pub given_both : (xs ys : List Step) → given_in (xs ++ ys) ≡ given_in xs ++ given_in ys
given_both [] ys = refl
given_both (x ∷ xs) ys = ap (λ (g : List Given). given_by x ++ g) (given_both xs ys) ∙ sym (append_assoc (given_by x) (given_in xs) (given_in ys))

-- ---- steps, and a mark after them
module _ (t : Shape) (l : Limits) where
  told_first : (none : Bool) (seconds : ℕ) (rest : List Step) (w : World) → (es : List Event) × ((run t l (cond none [] (Tick seconds ∷ []) ++ rest) w).events ≡ cond none [] (event.Tick seconds ∷ []) ++ es)
  unfolding run stepped
  told_first true seconds rest w = ((run t l rest w).events, refl)
  told_first false seconds rest w = ((run t l rest (stepped t l (Tick seconds) w).world).events, refl)

  -- where the seconds of a segment pass first, that is told first
  tells_first : (s : Segment) (xs : List Step) (w : World) → IsEager s xs → TellsFirst s (run t l xs w).events
  tells_first s xs w e =
      let k = told_first (s.seconds == 0) s.seconds e.rest w in
      record { rest = k.0; is = ap (λ (zs : List Step). (run t l zs w).events) e.is ∙ k.1 }

  pub may_split : (xs ys : List Step) (w : World) → MayDoAll t l w (xs ++ ys) → MayDoAll t l w xs × MayDoAll t l (run t l xs w).world ys
  unfolding run
  may_split [] ys w may = (tt, may)
  may_split (x ∷ xs) ys w may = (let r = may_split xs ys (stepped t l x w).world may.1 in ((may.0, r.0), r.1))

  -- what a mark after steps leaves
  pub record IsMarked (xs : List Step) (w : World) : Type 0 where
    pub world : (run t l (xs ++ Mark ∷ []) w).world ≡ (run t l xs w).world
    pub events : (run t l (xs ++ Mark ∷ []) w).events ≡ (run t l xs w).events ++ event.Settled ∷ []

  pub marked : (xs : List Step) (w : World) → IsMarked xs w
  unfolding run stepped
  marked xs w =
      let e = run_then t l xs (Mark ∷ []) w in
      record { world = ap (λ (s : Stepped). s.world) e; events = ap (λ (s : Stepped). s.events) e }

module _ (round : TagRoundTrip) (words : SendsAreWords) (leave : SendsLeaveAsFlat) (law : StepsTell) (t : Shape) (l : Limits) (i : Basis) (start : MayStart t l i) (b : Basis) (P : Arrival → Type 0) where
  -- ---- one segment
  part : (w : World) (g : List Given) (h : History) (left : List Left) → Kept t l i w g h left → IsSettled t w → (s : Segment) (xs : List Step) → MayDoAll t l w xs → Plays t l b s w xs →
      s.commands ≡ range_with_len (length (commands_of g) + 1) (length s.commands) → Each (HasCommand b) s.commands → PlaysSegment s (run t l xs w).events
  part w g h left k settled s xs may plays in_order valid =
      let es : List Event = (run t l xs w).events in
      let played : IsPlayed t g (given_in xs) es = segments_are_played round words leave law t l i start w g h left k settled xs may plays.settled in
      let time : TellsTime (seconds_in xs) es = run_time round words leave law t l i start xs w g h left k may plays.gives.unmarked in
      let size : length (commands_of (given_in xs)) ≡ length s.commands = ap (λ (cs : List Command). length cs) plays.gives.commands ∙ as_many b s.commands valid in
      record {
        of_segment = all_of IsOfSegment es (of_segment es (seconds_in xs) played.none_opened time);
        commands = played.commands ∙ (ap (range_with_len (length (commands_of g) + 1)) size ∙ sym in_order);
        arrivals = record {
          once = IsPermutation-trans (filter_map place_of es) (map (λ (a : Arrival). (a.port, a.index)) (arrivals_of (given_in xs))) (map (λ (a : Arrival). (a.port, a.index)) s.arrivals) played.once
              (IsPermutation-map (λ (a : Arrival). (a.port, a.index)) (arrivals_of (given_in xs)) s.arrivals plays.gives.arrivals);
          relays = λ j d h. relay_on (arrivals_of (given_in xs)) s.arrivals plays.gives.arrivals _ (played.relays j d h);
        };
        tick = time.ticks ∙ plays.gives.seconds;
      }

  -- ---- all segments
  record AreParts (ss : List Segment) (xss : List (List Step)) (es : List Event) (given : List Given) : Type 0 where
    plays : List (List Event)
    is : es ≡ settled_each plays
    each_played : Pairwise PlaysSegment ss plays
    told : commands_of given ≡ filter_map (command_of b) (flat_map (λ (s : Segment). s.commands) ss)
    came : Each P (arrivals_of given)
    firsts : Pairwise IsEager ss xss → Pairwise TellsFirst ss plays

  -- what follows a segment's steps and their mark
  record GoesOn (s : Segment) (xs : List Step) (w : World) (g : List Given) : Type 0 where
    next : length (commands_of (g ++ given_in (xs ++ Mark ∷ []))) + 1 ≡ (length (commands_of g) + 1) + length s.commands
    given : given_in (xs ++ Mark ∷ []) ≡ given_in xs
    settled : IsSettled t (run t l (xs ++ Mark ∷ []) w).world

  goes_on : (s : Segment) (xs : List Step) (w : World) (g : List Given) → Plays t l b s w xs → Each (HasCommand b) s.commands → GoesOn s xs w g
  goes_on s xs w g plays valid =
      let same : given_in (xs ++ Mark ∷ []) ≡ given_in xs = given_both xs (Mark ∷ []) ∙ append-nil (given_in xs) in
      let size : length (commands_of (given_in xs)) ≡ length s.commands = ap (λ (cs : List Command). length cs) plays.gives.commands ∙ as_many b s.commands valid in
      let whole = ap (λ (z : List Given). length (commands_of (g ++ z))) same ∙ (ap (λ (cs : List Command). length cs) (commands_append g (given_in xs)) ∙ length-append (commands_of g) (commands_of (given_in xs))) in
      record { next = omega (arith, whole, size); given = same; settled = subst (IsSettled t) (sym (marked t l xs w).world) plays.settled }

  parts : (ss : List Segment) (xss : List (List Step)) (w : World) (g : List Given) (h : History) (left : List Left) → Kept t l i w g h left → IsSettled t w → MayDoAll t l w (marked_each xss) →
      PlayAll t l b w ss xss → GoOn b (length (commands_of g) + 1) ss → Each (λ (s : Segment). Each P s.arrivals) ss →
      AreParts ss xss (run t l (marked_each xss) w).events (given_in (marked_each xss)) × IsSettled t (run t l (marked_each xss) w).world
  unfolding run
  parts [] [] w g h left k settled may plays goes all = (record { plays = []; is = refl; each_played = tt; told = refl; came = tt; firsts = λ z. tt }, settled)
  parts [] (xs ∷ xss) w g h left k settled may plays goes all = absurd plays
  parts (s ∷ ss) [] w g h left k settled may plays goes all = absurd plays
  parts (s ∷ ss) (xs ∷ xss) w g h left k settled may plays goes all =
      let ys : List Step = xs ++ Mark ∷ [] in
      let v : World = (run t l ys w).world in
      let m = may_split t l ys (marked_each xss) w may in
      let first = may_split t l xs (Mark ∷ []) w m.0 in
      let on : GoesOn s xs w g = goes_on s xs w g plays.0 goes.1 in
      let next = runs_kept round words leave law t l i start ys w g h left k m.0 in
      let one : PlaysSegment s (run t l xs w).events = part w g h left k settled s xs first.0 plays.0 goes.0 goes.1 in
      let rest = parts ss xss v (g ++ given_in ys) (h then (run t l ys w).events) (left ++ (run t l ys w).left) next on.settled m.1 plays.1 (subst (λ (n : ℕ). GoOn b n ss) (sym on.next) goes.2) all.1 in
      let r : AreParts ss xss (run t l (marked_each xss) v).events (given_in (marked_each xss)) = rest.0 in
      let e = run_then t l ys (marked_each xss) w in
      let given : given_in (ys ++ marked_each xss) ≡ given_in xs ++ given_in (marked_each xss) = given_both ys (marked_each xss) ∙ ap (λ (z : List Given). z ++ given_in (marked_each xss)) on.given in
      let came : Each P (arrivals_of (given_in xs)) = each_of P (arrivals_of (given_in xs)) (All-permutation P s.arrivals (arrivals_of (given_in xs)) (IsPermutation-sym (arrivals_of (given_in xs)) s.arrivals plays.0.gives.arrivals) (all_of P s.arrivals all.0)) in (
        record {
          plays = (run t l xs w).events ∷ r.plays;
          is = ap (λ (z : Stepped). z.events) e ∙ (ap (λ (zs : List Event). zs ++ (run t l (marked_each xss) v).events) (marked t l xs w).events ∙ ap (λ (zs : List Event). ((run t l xs w).events ++ event.Settled ∷ []) ++ zs) r.is);
          each_played = (one, r.each_played);
          told = ap commands_of given
              ∙ (commands_append (given_in xs) (given_in (marked_each xss))
              ∙ (ap (λ (cs : List Command). cs ++ commands_of (given_in (marked_each xss))) plays.0.gives.commands
              ∙ (ap (λ (cs : List Command). filter_map (command_of b) s.commands ++ cs) r.told ∙ sym (filter_map-append (command_of b) s.commands (flat_map (λ (z : Segment). z.commands) ss)))));
          came = subst (Each P) (sym (ap arrivals_of given ∙ arrivals_both (given_in xs) (given_in (marked_each xss)))) (each_both P (arrivals_of (given_in xs)) (arrivals_of (given_in (marked_each xss))) came r.came);
          firsts = λ z. (tells_first t l s xs w z.0, r.firsts z.1);
        },
        subst (IsSettled t) (sym (ap (λ (z : Stepped). z.world) e)) rest.1,
      )

  -- ---- the opening
  pub record IsOpening (es : List Event) (given : List Given) : Type 0 where
    pub commands : commands_of given ≡ []
    pub arrivals : arrivals_of given ≡ []
    pub risen : (a : Basis) → EachEvent (IsRisen t l a) ([] then es) → event.Settled ∷ ([] then es) ≡ opening t l a

  reversed : (es : List Event) → reverse ([] then es) ≡ es
  reversed es = reverse_then [] es

  pub is_opening : (os : List Step) (w : World) → Kept t l i w [] [] [] → MayDoAll t l w os → Plays t l b nothing_given w os → IsOpening (run t l os w).events (given_in os)
  is_opening os w k may plays =
      let es : List Event = (run t l os w).events in
      let g : List Given = given_in os in
      let next = runs_kept round words leave law t l i start os w [] [] [] k may in
      let o : IsOrderly t l i g ([] then es) = settled_is_orderly t l i start (run t l os w).world g ([] then es) (run t l os w).left next plays.settled in
      let none : arrivals_of g ≡ [] = none_permuted (arrivals_of g) plays.gives.arrivals in
      let time : TellsTime (seconds_in os) es = run_time round words leave law t l i start os w [] [] [] k may plays.gives.unmarked in
      let still : TellsTime [] es = subst (λ (ns : List ℕ). TellsTime ns es) plays.gives.seconds time in
      let numbers : filter_map number_of es ≡ [] = ap (filter_map number_of) (sym (reversed es)) ∙ (o.commands ∙ ap (λ (cs : List Command). range_with_len 1 (length cs)) plays.gives.commands) in
      let events : Each (IsOfArrival t g) es = each_new (IsOfArrival t g) [] es next.names.events in
      let came : Each (λ (a : Arrival). is_external t a.port ≡ true) (arrivals_of g) = subst (Each (λ (a : Arrival). is_external t a.port ≡ true)) (sym none) tt in
      let named : (p : ℕ) → is_external t p ≡ true → (n : ℕ) → times n (firsts (of_port p es)) ≡ times n (indices_of (arrivals_at p g)) = λ p ext n.
      ap (λ (zs : List Event). times n (firsts (of_port p zs))) (sym (reversed es)) ∙ o.named p ext n in
      let places : filter_map place_of es ≡ [] =
      none_permuted (filter_map place_of es)
      (subst (λ (zs : List Arrival). IsPermutation (filter_map place_of es) (map (λ (a : Arrival). (a.port, a.index)) zs)) none (named_once t g g es events came named)) in
      let ports : filter_map up_port es ≡ opening_ports t = ap (filter_map up_port) (sym (reversed es)) ∙ o.opened in
      record {
        commands = plays.gives.commands;
        arrivals = none;
        risen = λ a r. ap (λ (h : History). event.Settled ∷ h) (ups_are t l a es [] (only_rises es places numbers still) r ∙ ap (with_ups t l a []) ports);
      }

  -- ---- a whole run
  pub each_risen : (a : Basis) (arrivals : ℕ → List Arrival) (h : History) → EachEvent (IsRightly t l a arrivals) h → EachEvent (IsRisen t l a) h
  each_risen a arrivals [] k = tt
  each_risen a arrivals (e ∷ h) k = (each_risen a arrivals h k.0, k.1.risen)

  -- all that is legal of a run, but that its commands and arrivals are those of an input
  pub record IsLegal (ss : List Segment) (xss : List (List Step)) (h : History) (given : List Given) : Type 0 where
    pub plays : List (List Event)
    pub segments_in_order : h ≡ (opening t l (basis_with i given) then settled_each plays)
    pub each_played : Pairwise PlaysSegment ss plays
    pub refused_exactly : EachEvent (IsDecided t l (basis_with i given)) h
    pub ports_in_order : (p : ℕ) → IsInOrder t (reverse h) p
    pub relayed_exactly : (arrivals : ℕ → List Arrival) → Each (λ (a : Arrival). numbered (arrivals a.port) a.index ≡ Some a) (arrivals_of given) → EachEvent (IsEntered (basis_with i given) arrivals) h
    pub told : commands_of given ≡ filter_map (command_of b) (flat_map (λ (s : Segment). s.commands) ss)
    pub came : Each P (arrivals_of given)
    pub firsts : Pairwise IsEager ss xss → Pairwise TellsFirst ss plays

  pub legal : (ss : List Segment) (os : List Step) (xss : List (List Step)) → let w = first_world t l i.start i.ageing in MayDoAll t l w (marked_each (os ∷ xss)) → PlayAll t l b w (nothing_given ∷ ss) (os ∷ xss) →
      GoOn b 1 ss → Each (λ (s : Segment). Each P s.arrivals) ss → IsLegal ss xss ([] then (run t l (marked_each (os ∷ xss)) w).events) (given_in (marked_each (os ∷ xss)))
  legal ss os xss may plays goes all =
      let w : World = first_world t l i.start i.ageing in
      let ys : List Step = os ++ Mark ∷ [] in
      let v : World = (run t l ys w).world in
      let k = begins_kept t l i start in
      let m = may_split t l ys (marked_each xss) w may in
      let first = may_split t l os (Mark ∷ []) w m.0 in
      let es : List Event = (run t l os w).events in
      let open_is : IsOpening es (given_in os) = is_opening os w k first.0 plays.0 in
      let same : given_in ys ≡ given_in os = given_both os (Mark ∷ []) ∙ append-nil (given_in os) in
      let none_told_yet : commands_of (given_in ys) ≡ [] = ap commands_of same ∙ open_is.commands in
      let next = runs_kept round words leave law t l i start ys w [] [] [] k m.0 in
      let settled : IsSettled t v = subst (IsSettled t) (sym (marked t l os w).world) plays.0.settled in
      let rest = parts ss xss v (given_in ys) ([] then (run t l ys w).events) (run t l ys w).left next settled m.1 plays.1 (subst (λ (cs : List Command). GoOn b (length cs + 1) ss) (sym none_told_yet) goes) all in
      let r : AreParts ss xss (run t l (marked_each xss) v).events (given_in (marked_each xss)) = rest.0 in
      let joined = run_then t l ys (marked_each xss) w in
      let g : List Given = given_in (ys ++ marked_each xss) in
      let given : g ≡ given_in os ++ given_in (marked_each xss) = given_both ys (marked_each xss) ∙ ap (λ (z : List Given). z ++ given_in (marked_each xss)) same in
      let h : History = [] then (run t l (ys ++ marked_each xss) w).events in
      let end = runs_kept round words leave law t l i start (ys ++ marked_each xss) w [] [] [] k may in
      let end_settled : IsSettled t (run t l (ys ++ marked_each xss) w).world = subst (IsSettled t) (sym (ap (λ (z : Stepped). z.world) joined)) rest.1 in
      let o : IsOrderly t l i g h = settled_is_orderly t l i start (run t l (ys ++ marked_each xss) w).world g h (run t l (ys ++ marked_each xss) w).left end end_settled in
      let s : Stands t l i (run t l (ys ++ marked_each xss) w).world g h (run t l (ys ++ marked_each xss) w).left = kept_stands t l i start (run t l (ys ++ marked_each xss) w).world g h (run t l (ys ++ marked_each xss) w).left end in
      let whole : h ≡ ((event.Settled ∷ ([] then es)) then settled_each r.plays) =
      ap (λ (z : Stepped). [] then z.events) joined
      ∙ (then_append [] (run t l ys w).events (run t l (marked_each xss) v).events
      ∙ (ap (λ (zs : List Event). ([] then zs) then (run t l (marked_each xss) v).events) (marked t l os w).events
      ∙ (ap (λ (z : History). z then (run t l (marked_each xss) v).events) (then_append [] es (event.Settled ∷ [])) ∙ ap (λ (zs : List Event). (event.Settled ∷ ([] then es)) then zs) r.is))) in
      let risen : EachEvent (IsRisen t l (basis_with i g)) ((event.Settled ∷ ([] then es)) then settled_each r.plays) = subst (EachEvent (IsRisen t l (basis_with i g))) whole (each_risen (basis_with i g) (λ p. arrivals_at p g) h s.rightly) in
      let risen_first : EachEvent (IsRisen t l (basis_with i g)) ([] then es) = (each_before (IsRisen t l (basis_with i g)) (settled_each r.plays) (event.Settled ∷ ([] then es)) risen).0 in
      record {
        plays = r.plays;
        segments_in_order = whole ∙ ap (λ (z : History). z then settled_each r.plays) (open_is.risen (basis_with i g) risen_first);
        each_played = r.each_played;
        refused_exactly = o.refused;
        ports_in_order = λ p.
            elim (cases_Bool (is_external t p)) [
              | inl ext ↦ o.ordered p ext
              | inr outer ↦
                  let zs : List Event = (run t l (ys ++ marked_each xss) w).events in
                  let none : of_port p (reverse h) ≡ [] = ap (of_port p) (reversed zs) ∙ none_told t g p zs outer (each_new (IsOfArrival t g) [] zs end.names.events) in
                  silent p (of_port p (reverse h)) none
            ];
        relayed_exactly = λ arrivals found. entered_among (basis_with i g) g arrivals s.follows.indexed found h end.entered;
        told = ap commands_of given ∙ (commands_append (given_in os) (given_in (marked_each xss)) ∙ (ap (λ (cs : List Command). cs ++ commands_of (given_in (marked_each xss))) open_is.commands ∙ r.told));
        came = subst (Each P) (sym (ap arrivals_of given ∙ (arrivals_both (given_in os) (given_in (marked_each xss)) ∙ ap (λ (zs : List Arrival). zs ++ arrivals_of (given_in (marked_each xss))) open_is.arrivals))) r.came;
        firsts = r.firsts;
      }
    where
      silent : (p : ℕ) (xs : List (ℕ × Bool)) → xs ≡ [] →
          MatchBool (is_extended t p) (Rise 0 (relays_and_late 0 xs)) (Rise 0 (map (λ x. x.0) xs))
      silent p xs none = rw none (by_flag (is_extended t p))
        where
          by_flag : (c : Bool) → MatchBool c (Unit {0}) (Unit {0})
          by_flag true = tt
          by_flag false = tt

-- ---- of an input
pub mapped : (cs : List TimedCommand) → length (map (λ (c : TimedCommand). c.command) cs) ≡ length cs
mapped [] = refl
mapped (c ∷ cs) = ap suc (mapped cs)

module _ (round : TagRoundTrip) (words : SendsAreWords) (leave : SendsLeaveAsFlat) (law : StepsTell) (stay : StepsStayWritten) (m : Mode) (i : Input) (os : List Step) (xss : List (List Step)) (valid : IsValid i.setup) (vids : All HasVid i.setup.start) (timely : IsTimely i)
    (may : MayGoAll (tree_of i) (bounds_of i) (first_world (tree_of i) (bounds_of i) (start_of i.setup) i.setup.ageing) (marked_each (os ∷ xss)))
    (plays : PlayAll (tree_of i) (bounds_of i) (basis_in i) (first_world (tree_of i) (bounds_of i) (start_of i.setup) i.setup.ageing) (nothing_given ∷ segments m i) (os ∷ xss)) where
  start : MayStart (tree_of i) (bounds_of i) (basis_of i.setup)
  start = setups_may_start i.setup valid vids

  numbers : flat_map (λ (s : Segment). s.commands) (segments m i) ≡ range_with_len 1 (length (basis_in i).commands)
  numbers = in_file_order m i timely ∙ ap (range_with_len 1) (sym (mapped i.commands))

  goes : GoOn (basis_in i) 1 (segments m i)
  goes = go_on (basis_in i) (segments m i) 1 (length (basis_in i).commands) numbers (subst (Each (HasCommand (basis_in i))) (sym numbers) (all_commands (basis_in i)).0)

  whole : IsLegal round words leave law (tree_of i) (bounds_of i) (basis_of i.setup) start (basis_in i) (IsNumberedIn i) (segments m i) xss
      ([] then (run (tree_of i) (bounds_of i) (marked_each (os ∷ xss)) (first_world (tree_of i) (bounds_of i) (start_of i.setup) i.setup.ageing)).events) (given_in (marked_each (os ∷ xss)))
  whole =
      let t : Shape = tree_of i in
      let l : Limits = bounds_of i in
      let w : World = first_world t l (start_of i.setup) i.setup.ageing in
      let do_all : MayDoAll t l w (marked_each (os ∷ xss)) = (runs_go_on round words leave law stay t l (basis_of i.setup) start (marked_each (os ∷ xss)) may).may in
      legal round words leave law t l (basis_of i.setup) start (basis_in i) (IsNumberedIn i) (segments m i) os xss do_all plays goes (segments_numbered m i)

  same : basis_with (basis_of i.setup) (given_in (marked_each (os ∷ xss))) ≡ basis_in i
  same =
      ap (λ (cs : List Command). record { start = (basis_in i).start; commands = cs; ageing = (basis_in i).ageing })
      (whole.told ∙ (ap (filter_map (command_of (basis_in i))) numbers ∙ (all_commands (basis_in i)).1))

  pub is_legal : Legal m i ([] then (run (tree_of i) (bounds_of i) (marked_each (os ∷ xss)) (first_world (tree_of i) (bounds_of i) (start_of i.setup) i.setup.ageing)).events)
  is_legal =
      let h : History = [] then (run (tree_of i) (bounds_of i) (marked_each (os ∷ xss)) (first_world (tree_of i) (bounds_of i) (start_of i.setup) i.setup.ageing)).events in
      record {
        plays = whole.plays;
        segments_in_order = whole.segments_in_order ∙ ap (λ (a : Basis). opening (tree_of i) (bounds_of i) a then settled_each whole.plays) same;
        each_played = whole.each_played;
        refused_exactly = subst (λ (a : Basis). EachEvent (IsDecided (tree_of i) (bounds_of i) a) h) same whole.refused_exactly;
        ports_in_order = whole.ports_in_order;
        relayed_exactly = subst (λ (a : Basis). EachEvent (IsEntered a (arrivals_in i)) h) same (whole.relayed_exactly (arrivals_in i) whole.came);
      }

pub runs_play_legally : TagRoundTrip → SendsAreWords → SendsLeaveAsFlat → StepsTell → StepsStayWritten → RunsPlayLegally
runs_play_legally round words leave law stay m i [] valid vids timely may plays = absurd plays
runs_play_legally round words leave law stay m i (os ∷ xss) valid vids timely may plays = is_legal round words leave law stay m i os xss valid vids timely may plays

-- ---- settling
pub each_moves : (xs : List Step) → machine.Each IsMove xs → (seconds_in xs ≡ []) × (given_in xs ≡ []) × Each IsUnmarked xs
each_moves [] k = (refl, refl, tt)
each_moves (Carry n way ∷ xs) k = (let r = each_moves xs k.1 in (r.0, r.1, (tt, r.2)))
each_moves (Control n way j keep ∷ xs) k = (let r = each_moves xs k.1 in (r.0, r.1, (tt, r.2)))
each_moves (Lose n way j ∷ xs) k = (let r = each_moves xs k.1 in (r.0, r.1, (tt, r.2)))
each_moves (Beat ∷ xs) k = (let r = each_moves xs k.1 in (r.0, r.1, (tt, r.2)))
each_moves (Arrive a ∷ xs) k = absurd k.0
each_moves (Tick seconds ∷ xs) k = absurd k.0
each_moves (Order c ∷ xs) k = absurd k.0
each_moves (Mark ∷ xs) k = absurd k.0

seconds_both : (xs ys : List Step) → seconds_in (xs ++ ys) ≡ seconds_in xs ++ seconds_in ys
seconds_both [] ys = refl
seconds_both (x ∷ xs) ys = ap (λ (ns : List ℕ). seconds_by x ++ ns) (seconds_both xs ys) ∙ sym (append_assoc (seconds_by x) (seconds_in xs) (seconds_in ys))

pub settling_plays : SettlingPlays
settling_plays t l b s w steps verdicts n gives settled =
    let v : World = (run t l steps w).world in
    let k = (rounds_are_steps t l v verdicts).1 n in
    let m = each_moves k.steps k.moves in
    let given : given_in (steps ++ k.steps) ≡ given_in steps = given_both steps k.steps ∙ (ap (λ (g : List Given). given_in steps ++ g) m.1 ∙ append-nil (given_in steps)) in
    let end : (run t l (steps ++ k.steps) w).world ≡ (settled_within t l n v verdicts).done.world = ap (λ (z : Stepped). z.world) (run_then t l steps k.steps w) ∙ ap (λ (z : Stepped). z.world) (sym k.is) in
    record {
      more = k.steps;
      is = k.is;
      plays = record {
        gives = record {
          seconds = seconds_both steps k.steps ∙ (ap (λ (ns : List ℕ). seconds_in steps ++ ns) m.0 ∙ (append-nil (seconds_in steps) ∙ gives.seconds));
          commands = ap commands_of given ∙ gives.commands;
          arrivals = subst (λ (g : List Given). IsPermutation (arrivals_of g) s.arrivals) (sym given) gives.arrivals;
          unmarked = each_both IsUnmarked steps k.steps gives.unmarked m.2;
        };
        settled = subst (IsSettled t) (sym end) settled;
      };
    }
