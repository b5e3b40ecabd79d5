-- A run that has played the first segments of the eager mode tells what the eager history says of these.
use Rattle.std.proofs.Common.{◌≡◌, ℕ, ◌++◌, List, [], ◌∷◌, length, refl, ap, sym, ◌∙◌, subst}
use Rattle.std.specs.Prelude.{filter_map, flat_map, All}
use Rattle.std.specs.List.{range_with_len}
use Rattle.std.proofs.lemmas.Grind.{flat_map-append}
use Rattle.std.proofs.lemmas.List.{append-nil}
use Rattle.std.proofs.lemmas.List.Elements.{filter_map-append}
use Rattle.std.proofs.lemmas.List.Sums.{fold-append}
use Rattle.exb_model.specs.declared.command.Command.{Command}
use Rattle.exb_model.specs.declared.event.Event.{Event}
use Rattle.exb_model.specs.declared.event.Event.TheVariants as event
use Rattle.exb_model.specs.EagerHistory.{arrival_event, command_event, with_tick, with_commands, with_arrivals, eager_segment, opening, eagerly, eager}
use Rattle.exb_model.specs.History.{Basis, History, ◌then◌, bridge_after, command_of}
use Rattle.exb_model.specs.declared.arrival.Arrival.{Arrival}
use Rattle.exb_model.specs.Input.{Input, Segment, Eager, tree_of, bounds_of, segments}
use Rattle.exb_model.specs.Input.{basis_of as basis_in, arrivals_at as arrivals_in}
use Rattle.exb_model.specs.LegalHistory.{EachEvent, IsDecided, IsEntered, settled_each}
use Rattle.exb_model.specs.Lists.{Pairwise}
use Rattle.exb_model.specs.Setup.{Limits, IsValid, start_of}
use Rattle.exb_model.specs.Tree.{Shape}
use Rattle.exb_frame.specs.TagValues.{TagRoundTrip}
use Rattle.exb_relay.specs.Laws.{SendsAreWords, SendsLeaveAsFlat}
use Rattle.exb_control_spec.specs.Runs.Journal.{StepsTell}
use Rattle.exb_world_spec.specs.Settling.{run}
use Rattle.exb_world_spec.specs.Worlds.{Step, first_world}
use Rattle.exb_world_spec.specs.Runs.FrameBytes.{StepsStayWritten}
use Rattle.exb_flight.specs.Items.{Each}
use Rattle.exb_world_laws.specs.WorldInput.{basis_with}
use Rattle.exb_world_laws.specs.FrameBytes.{MayGoAll}
use Rattle.exb_world_laws.specs.WorldInvariant.{MayStart, MayDoAll, given_in, basis_of}
use Rattle.exb_world_spec.specs.Runs.ReachedWorlds.{HasVid}
use Rattle.exb_world_laws.specs.SegmentRuns.{nothing_given, marked_each, PlayAll, IsTimely, IsEager, RunsPlayEagerly}
use Rattle.exb_flight.proofs.KeptPromises.{then_append}
use Rattle.exb_world_laws.proofs.EagerHistories.{IsSingle, eager_singles, eager_is, tick_in, with_tick_is}
use Rattle.exb_world_laws.proofs.FrameBytes.{runs_go_on}
use Rattle.exb_world_laws.proofs.LongerHistories.{HasCommands, longer, decided_stays, entered_stays, opening_stays}
use Rattle.exb_world_laws.proofs.InputOrder.{IsNumberedIn, segments_numbered, in_file_order}
use Rattle.exb_world_laws.proofs.InvariantSteps.{kept_commands}
use Rattle.exb_world_laws.proofs.CommandNumbers.{Front, HasCommand, GoOn, go_on, as_many, front_range, all_commands}
use Rattle.exb_world_laws.proofs.SegmentHistories.{IsLegal, legal, mapped}
use Rattle.exb_world_laws.proofs.Setups.{setups_may_start}
use Rattle.exb_world_laws.proofs.OneBridge.{begins_kept, runs_kept}

each_front : {A : Type 0} (P : A → Type 0) (xs ys : List A) → Each P (xs ++ ys) → Each P xs
each_front P [] ys k = tt
each_front P (x ∷ xs) ys k = (k.0, each_front P xs ys k.1)

-- all commands of some segments
abbrev commands_in : List Segment → List ℕ
commands_in ss = flat_map (λ (s : Segment). s.commands) ss

-- ---- a history goes on
module _ (t : Shape) (l : Limits) (b : Basis) where
  tick_later : (seconds : ℕ) (h : History) → (more : List Event) × (with_tick seconds h ≡ (h then more))
  tick_later seconds h = (tick_in seconds, sym (with_tick_is seconds h))

  commands_later : (ns : List ℕ) (h : History) → (more : List Event) × (with_commands t l b h ns ≡ (h then more))
  commands_later [] h = ([], refl)
  commands_later (n ∷ ns) h =
      let e : Event = command_event t l b (bridge_after b h) n in
      let r = commands_later ns (e ∷ h) in
      (e ∷ r.0, r.1)

  arrivals_later : (xs : List Arrival) (h : History) → (more : List Event) × (with_arrivals b h xs ≡ (h then more))
  arrivals_later [] h = ([], refl)
  arrivals_later (a ∷ xs) h =
      let e : Event = arrival_event (bridge_after b h) a in
      let r = arrivals_later xs (e ∷ h) in
      (e ∷ r.0, r.1)

  segment_later : (s : Segment) (h : History) → (more : List Event) × (eager_segment t l b h s ≡ (h then more))
  segment_later s h =
      let ticked = tick_later s.seconds h in
      let ordered = commands_later s.commands (with_tick s.seconds h) in
      let came = arrivals_later s.arrivals (with_commands t l b (with_tick s.seconds h) s.commands) in
      let all : with_arrivals b (with_commands t l b (with_tick s.seconds h) s.commands) s.arrivals ≡ (((h then ticked.0) then ordered.0) then came.0) =
      came.1 ∙ ap (λ (z : History). z then came.0) (ordered.1 ∙ ap (λ (z : History). z then ordered.0) ticked.1) in (
        ((ticked.0 ++ ordered.0) ++ came.0) ++ event.Settled ∷ [],
        ap (λ (z : History). event.Settled ∷ z) (all ∙ (ap (λ (z : History). z then came.0) (sym (then_append h ticked.0 ordered.0)) ∙ sym (then_append h (ticked.0 ++ ordered.0) came.0)))
            ∙ sym (then_append h ((ticked.0 ++ ordered.0) ++ came.0) (event.Settled ∷ [])),
      )

  -- by the events of more segments
  pub eagerly_later : (ss : List Segment) (h : History) → (more : List Event) × (eagerly t l b h ss ≡ (h then more))
  eagerly_later [] h = ([], refl)
  eagerly_later (s ∷ ss) h =
      let one = segment_later s h in
      let rest = eagerly_later ss (eager_segment t l b h s) in
      (one.0 ++ rest.0, rest.1 ∙ (ap (λ (z : History). z then rest.0) one.1 ∙ sym (then_append h one.0 rest.0)))

-- ---- the first segments of an input
module _ (i : Input) (ss rest : List Segment) (timely : IsTimely i) (front : segments Eager i ≡ ss ++ rest) where
  -- the commands that were given, and those that are still to be given
  numbers : commands_in ss ++ commands_in rest ≡ range_with_len 1 (length (basis_in i).commands)
  numbers =
      sym (flat_map-append (λ (s : Segment). s.commands) ss rest) ∙ ap (flat_map (λ (s : Segment). s.commands)) (sym front)
      ∙ in_file_order Eager i timely ∙ ap (range_with_len 1) (sym (mapped i.commands))

  first_numbers : commands_in ss ≡ range_with_len 1 (length (commands_in ss))
  first_numbers = (let f : Front 1 (length (basis_in i).commands) (commands_in ss) (commands_in rest) = front_range (commands_in ss) (commands_in rest) 1 (length (basis_in i).commands) numbers in f.front)

  known : Each (HasCommand (basis_in i)) (commands_in ss)
  known = each_front (HasCommand (basis_in i)) (commands_in ss) (commands_in rest) (subst (Each (HasCommand (basis_in i))) (sym numbers) (all_commands (basis_in i)).0)

  -- they are numbered from 1 on
  pub numbered : commands_in ss ≡ range_with_len 1 (length (filter_map (command_of (basis_in i)) (commands_in ss)))
  numbered = first_numbers ∙ ap (range_with_len 1) (sym (as_many (basis_in i) (commands_in ss) known))

  goes : GoOn (basis_in i) 1 ss
  goes = go_on (basis_in i) ss 1 (length (commands_in ss)) first_numbers known

  found : Each (λ (s : Segment). Each (IsNumberedIn i) s.arrivals) ss
  found =
      each_front (λ (s : Segment). Each (IsNumberedIn i) s.arrivals) ss rest
      (subst (Each (λ (s : Segment). Each (IsNumberedIn i) s.arrivals)) front (segments_numbered Eager i))

  singles : Each IsSingle ss
  singles = each_front IsSingle ss rest (subst (Each IsSingle) front (eager_singles i))

  -- what is told of them is a front of the eager history
  pub eager_front : (h : History) → h ≡ eagerly (tree_of i) (bounds_of i) (basis_in i) (opening (tree_of i) (bounds_of i) (basis_in i)) ss → (more : List Event) × (eager i ≡ (h then more))
  unfolding eager
  eager_front h is =
      let t : Shape = tree_of i in
      let l : Limits = bounds_of i in
      let b : Basis = basis_in i in
      let later = eagerly_later t l b rest h in (
        later.0,
        ap (eagerly t l b (opening t l b)) front
            ∙ (fold-append (eager_segment t l b) (opening t l b) ss rest ∙ (ap (λ (z : History). eagerly t l b z rest) (sym is) ∙ later.1)),
      )

module _ (round : TagRoundTrip) (words : SendsAreWords) (leave : SendsLeaveAsFlat) (law : StepsTell) (stay : StepsStayWritten) (i : Input) (ss rest : List Segment) (os : List Step) (xss : List (List Step))
    (valid : IsValid i.setup) (vids : All HasVid i.setup.start) (timely : IsTimely i) (front : segments Eager i ≡ ss ++ rest)
    (may : MayGoAll (tree_of i) (bounds_of i) (first_world (tree_of i) (bounds_of i) (start_of i.setup) i.setup.ageing) (marked_each (os ∷ xss)))
    (plays : PlayAll (tree_of i) (bounds_of i) (basis_in i) (first_world (tree_of i) (bounds_of i) (start_of i.setup) i.setup.ageing) (nothing_given ∷ ss) (os ∷ xss)) where
  -- what was told
  abbrev told : History
  told = [] then (run (tree_of i) (bounds_of i) (marked_each (os ∷ xss)) (first_world (tree_of i) (bounds_of i) (start_of i.setup) i.setup.ageing)).events

  start : MayStart (tree_of i) (bounds_of i) (basis_of i.setup)
  start = setups_may_start i.setup valid vids

  may_do : MayDoAll (tree_of i) (bounds_of i) (first_world (tree_of i) (bounds_of i) (start_of i.setup) i.setup.ageing) (marked_each (os ∷ xss))
  may_do = (runs_go_on round words leave law stay (tree_of i) (bounds_of i) (basis_of i.setup) start (marked_each (os ∷ xss)) may).may

  is_legal : IsLegal round words leave law (tree_of i) (bounds_of i) (basis_of i.setup) start (basis_in i) (IsNumberedIn i) ss xss told (given_in (marked_each (os ∷ xss)))
  is_legal = legal round words leave law (tree_of i) (bounds_of i) (basis_of i.setup) start (basis_in i) (IsNumberedIn i) ss os xss may_do plays (goes i ss rest timely front) (found i ss rest timely front)

  abbrev left_over : List Command
  left_over = filter_map (command_of (basis_in i)) (commands_in rest)

  abbrev short : Basis
  short = basis_with (basis_of i.setup) (given_in (marked_each (os ∷ xss)))

  whole : longer short left_over ≡ basis_in i
  whole =
      ap (λ (cs : List Command). record { start = (basis_in i).start; commands = cs; ageing = (basis_in i).ageing })
      (ap (λ (cs : List Command). cs ++ left_over) is_legal.told
      ∙ (sym (filter_map-append (command_of (basis_in i)) (commands_in ss) (commands_in rest)) ∙ (ap (filter_map (command_of (basis_in i))) (numbers i ss rest timely front) ∙ (all_commands (basis_in i)).1)))

  has : HasCommands short told
  has =
      let end = runs_kept round words leave law (tree_of i) (bounds_of i) (basis_of i.setup) start (marked_each (os ∷ xss)) (first_world (tree_of i) (bounds_of i) (start_of i.setup) i.setup.ageing) [] [] []
      (begins_kept (tree_of i) (bounds_of i) (basis_of i.setup) start) may_do in
      kept_commands (tree_of i) (bounds_of i) (basis_of i.setup) _ (given_in (marked_each (os ∷ xss))) told _ end

  in_order : told ≡ (opening (tree_of i) (bounds_of i) (basis_in i) then settled_each is_legal.plays)
  in_order =
      is_legal.segments_in_order
      ∙ ap (λ (h : History). h then settled_each is_legal.plays)
      (sym (opening_stays short left_over (tree_of i) (bounds_of i)) ∙ ap (opening (tree_of i) (bounds_of i)) whole)

  -- where the seconds of each pass first
  pub is_eager : Pairwise IsEager ss xss → told ≡ eagerly (tree_of i) (bounds_of i) (basis_in i) (opening (tree_of i) (bounds_of i) (basis_in i)) ss
  is_eager seconds_first =
      let refused : EachEvent (IsDecided (tree_of i) (bounds_of i) (basis_in i)) told =
      subst (λ (a : Basis). EachEvent (IsDecided (tree_of i) (bounds_of i) a) told) whole (decided_stays short left_over (tree_of i) (bounds_of i) told has is_legal.refused_exactly) in
      let relayed : EachEvent (IsEntered (basis_in i) (arrivals_in i)) told =
      subst (λ (a : Basis). EachEvent (IsEntered a (arrivals_in i)) told) whole (entered_stays short left_over (arrivals_in i) told has (is_legal.relayed_exactly (arrivals_in i) is_legal.came)) in
      in_order
      ∙ eager_is (tree_of i) (bounds_of i) (basis_in i) (arrivals_in i) ss is_legal.plays (opening (tree_of i) (bounds_of i) (basis_in i))
      (record {
        each_played = is_legal.each_played;
        firsts = is_legal.firsts seconds_first;
        singles = singles i ss rest timely front;
        found = found i ss rest timely front;
      })
      (subst (EachEvent (IsDecided (tree_of i) (bounds_of i) (basis_in i))) in_order refused) (subst (EachEvent (IsEntered (basis_in i) (arrivals_in i))) in_order relayed)

pub runs_play_eagerly : TagRoundTrip → SendsAreWords → SendsLeaveAsFlat → StepsTell → StepsStayWritten → RunsPlayEagerly
unfolding eager
runs_play_eagerly round words leave law stay i os xss valid vids timely may plays seconds_first =
    is_eager round words leave law stay i (segments Eager i) [] os xss valid vids timely (sym (append-nil (segments Eager i))) may plays seconds_first
