-- A run that has played the first segments of an input has told a history, files and a trace that are legal so far.
use Rattle.std.proofs.Common.{◌≡◌, ℕ, zero, suc, ◌+◌, ◌==◌, ◌++◌, Bool, true, false, List, [], ◌∷◌, Some, length, map, filter, take, drop, refl, ap, sym, ◌∙◌, subst, inl, inr, add-one}
use Rattle.std.specs.Prelude.{filter_map, flat_map, All, slice_get, if◌then◌else◌}
use Rattle.std.specs.List.{range_with_len}
use Rattle.std.proofs.lemmas.Bool.{cases_Bool, eqb-true}
use Rattle.std.proofs.lemmas.Grind.{flat_map-append}
use Rattle.std.proofs.lemmas.List.Elements.{filter_map-append}
use Rattle.exb_model.specs.declared.command.Command.{Command}
use Rattle.exb_model.specs.EagerHistory.{opening}
use Rattle.exb_model.specs.FlatBridge.{Sent, flat}
use Rattle.exb_model.specs.History.{Basis, History, ◌then◌, command_of}
use Rattle.exb_model.specs.declared.arrival.Arrival.{Arrival}
use Rattle.exb_model.specs.Input.{Input, Segment, Mode, tree_of, bounds_of, segments}
use Rattle.exb_model.specs.Input.{basis_of as basis_in, arrivals_at as arrivals_in}
use Rattle.exb_model.specs.LegalHistory.{EachEvent, IsDecided, IsEntered, settled_each}
use Rattle.exb_model.specs.Lists.{numbered}
use Rattle.exb_model.specs.Setup.{Limits, IsValid}
use Rattle.exb_model.specs.Tree.{Shape, is_external}
use Rattle.exb_model.specs.Traces.{TraceLine}
use Rattle.exb_frame.specs.TagValues.{TagRoundTrip}
use Rattle.exb_relay.specs.Laws.{SendsAreWords, SendsLeaveAsFlat}
use Rattle.exb_control_spec.specs.Runs.Journal.{StepsTell}
use Rattle.exb_world_spec.specs.AllowedSteps.{IsSettled}
use Rattle.exb_world_spec.specs.Settling.{run}
use Rattle.exb_world_spec.specs.Steps.{Stepped}
use Rattle.exb_world_spec.specs.TraceLines.{all_told}
use Rattle.exb_world_spec.specs.Worlds.{Step, left_at}
use Rattle.exb_world_spec.specs.Runs.FrameBytes.{StepsStayWritten}
use Rattle.exb_flight.specs.Items.{Each}
use Rattle.exb_trace_spec.specs.JournalLines.{journal_of}
use Rattle.exb_trace_spec.specs.InputFrames.{frames_in, frames_out}
use Rattle.exb_trace_spec.specs.LegalTrace.{LegalTrace}
use Rattle.exb_world_laws.specs.WorldInput.{Given, Came, Told, arrivals_of, indices_of, basis_with}
use Rattle.exb_world_laws.specs.WorldInput.{arrivals_at as given_at}
use Rattle.exb_world_laws.specs.FrameBytes.{MayGoAll}
use Rattle.exb_world_laws.specs.WorldInvariant.{MayStart, MayDoAll, given_in, basis_of}
use Rattle.exb_world_spec.specs.Runs.ReachedWorlds.{HasVid}
use Rattle.exb_world_laws.specs.SegmentRuns.{nothing_given, marked_each, PlayAll, IsTimely}
use Rattle.exb_world_laws.specs.Runs.SegmentRuns.{begin_of}
use Rattle.exb_world_laws.proofs.FrameBytes.{runs_go_on}
use Rattle.exb_world_laws.proofs.LongerHistories.{HasCommands, longer, decided_stays, entered_stays, flat_stays, opening_stays}
use Rattle.exb_world_laws.proofs.InputOrder.{IsNumberedIn, segments_numbered, in_file_order}
use Rattle.exb_world_laws.proofs.InvariantSteps.{kept_commands}
use Rattle.exb_world_laws.proofs.CommandNumbers.{Front, HasCommand, GoOn, go_on, front_range, all_commands}
use Rattle.exb_world_laws.proofs.SegmentHistories.{IsLegal, legal, mapped}
use Rattle.exb_world_laws.proofs.Setups.{setups_may_start}
use Rattle.exb_world_laws.proofs.OneBridge.{begins_kept, runs_kept, settled_owes_nothing}
use Rattle.exb_world_laws.proofs.Runs.SegmentRuns.{kept, settled, start as begun_of}
use Rattle.exb_world_laws.proofs.Runs.Settling.{runs_stay_low}
use Rattle.exb_trace_laws.specs.TraceLaws.{given_in as came_in}
use Rattle.exb_trace_laws.specs.RunTraces.{SetupsTellLegally}
use Rattle.exb_trace_laws.specs.TracePrefixes.{LegalUpTo, RunsTellSoFar}
use Rattle.exb_trace_laws.specs.TraceRelation.{captures_of, outputs_of}
use Rattle.exb_trace_laws.proofs.InputTraces.{bytes_at, given_is, outputs_are}

each_front : {A : Type 0} (P : A → Type 0) (xs ys : List A) → Each P (xs ++ ys) → Each P xs
each_front P [] ys k = tt
each_front P (x ∷ xs) ys k = (k.0, each_front P xs ys k.1)

-- all commands of some segments
abbrev commands_in : List Segment → List ℕ
commands_in ss = flat_map (λ (s : Segment). s.commands) ss

-- ---- the first segments of an input
module _ (m : Mode) (i : Input) (ss rest : List Segment) (timely : IsTimely i) (front : segments m i ≡ ss ++ rest) where
  numbers : commands_in ss ++ commands_in rest ≡ range_with_len 1 (length (basis_in i).commands)
  numbers =
      sym (flat_map-append (λ (s : Segment). s.commands) ss rest) ∙ ap (flat_map (λ (s : Segment). s.commands)) (sym front)
      ∙ in_file_order m i timely ∙ ap (range_with_len 1) (sym (mapped i.commands))

  first_numbers : commands_in ss ≡ range_with_len 1 (length (commands_in ss))
  first_numbers = (let f : Front 1 (length (basis_in i).commands) (commands_in ss) (commands_in rest) = front_range (commands_in ss) (commands_in rest) 1 (length (basis_in i).commands) numbers in f.front)

  known : Each (HasCommand (basis_in i)) (commands_in ss)
  known = each_front (HasCommand (basis_in i)) (commands_in ss) (commands_in rest) (subst (Each (HasCommand (basis_in i))) (sym numbers) (all_commands (basis_in i)).0)

  goes : GoOn (basis_in i) 1 ss
  goes = go_on (basis_in i) ss 1 (length (commands_in ss)) first_numbers known

  found : Each (λ (s : Segment). Each (IsNumberedIn i) s.arrivals) ss
  found =
      each_front (λ (s : Segment). Each (IsNumberedIn i) s.arrivals) ss rest
      (subst (Each (λ (s : Segment). Each (IsNumberedIn i) s.arrivals)) front (segments_numbered m i))

module _ (round : TagRoundTrip) (words : SendsAreWords) (leave : SendsLeaveAsFlat) (law : StepsTell) (stay : StepsStayWritten) (m : Mode) (i : Input) (ss rest : List Segment) (os : List Step) (xss : List (List Step))
    (valid : IsValid i.setup) (vids : All HasVid i.setup.start) (timely : IsTimely i) (front : segments m i ≡ ss ++ rest)
    (may : MayGoAll (tree_of i) (bounds_of i) (begin_of i) (marked_each (os ∷ xss)))
    (plays : PlayAll (tree_of i) (bounds_of i) (basis_in i) (begin_of i) (nothing_given ∷ ss) (os ∷ xss)) where
  -- what was told
  abbrev told : History
  told = [] then (run (tree_of i) (bounds_of i) (marked_each (os ∷ xss)) (begin_of i)).events

  start : MayStart (tree_of i) (bounds_of i) (basis_of i.setup)
  start = setups_may_start i.setup valid vids

  may_do : MayDoAll (tree_of i) (bounds_of i) (begin_of i) (marked_each (os ∷ xss))
  may_do = (runs_go_on round words leave law stay (tree_of i) (bounds_of i) (basis_of i.setup) start (marked_each (os ∷ xss)) may).may

  is_legal : IsLegal round words leave law (tree_of i) (bounds_of i) (basis_of i.setup) start (basis_in i) (IsNumberedIn i) ss xss told (given_in (marked_each (os ∷ xss)))
  is_legal = legal round words leave law (tree_of i) (bounds_of i) (basis_of i.setup) start (basis_in i) (IsNumberedIn i) ss os xss may_do plays (goes m i ss rest timely front) (found m i ss rest timely front)

  abbrev left_over : List Command
  left_over = filter_map (command_of (basis_in i)) (commands_in rest)

  abbrev short : Basis
  short = basis_with (basis_of i.setup) (given_in (marked_each (os ∷ xss)))

  -- with the commands that are still to be given it is the history's basis
  whole : longer short left_over ≡ basis_in i
  whole =
      ap (λ (cs : List Command). record { start = (basis_in i).start; commands = cs; ageing = (basis_in i).ageing })
      (ap (λ (cs : List Command). cs ++ left_over) is_legal.told
      ∙ (sym (filter_map-append (command_of (basis_in i)) (commands_in ss) (commands_in rest)) ∙ (ap (filter_map (command_of (basis_in i))) (numbers m i ss rest timely front) ∙ (all_commands (basis_in i)).1)))

  has : HasCommands short told
  has =
      let end = runs_kept round words leave law (tree_of i) (bounds_of i) (basis_of i.setup) start (marked_each (os ∷ xss)) (begin_of i) [] [] []
      (begins_kept (tree_of i) (bounds_of i) (basis_of i.setup) start) may_do in
      kept_commands (tree_of i) (bounds_of i) (basis_of i.setup) _ (given_in (marked_each (os ∷ xss))) told _ end

  pub up_to : LegalUpTo i ss told
  up_to = record {
    plays = is_legal.plays;
    segments_in_order =
        is_legal.segments_in_order
        ∙ ap (λ (h : History). h then settled_each is_legal.plays) (sym (opening_stays short left_over (tree_of i) (bounds_of i)) ∙ ap (opening (tree_of i) (bounds_of i)) whole);
    each_played = is_legal.each_played;
    refused_exactly = subst (λ (a : Basis). EachEvent (IsDecided (tree_of i) (bounds_of i) a) told) whole (decided_stays short left_over (tree_of i) (bounds_of i) told has is_legal.refused_exactly);
    ports_in_order = is_legal.ports_in_order;
    relayed_exactly = subst (λ (a : Basis). EachEvent (IsEntered a (arrivals_in i)) told) whole (entered_stays short left_over (arrivals_in i) told has (is_legal.relayed_exactly (arrivals_in i) is_legal.came));
  }

  -- what the one bridge sends of it, whatever commands are still to come
  pub flat_whole : (h : History) → HasCommands short h → (q : ℕ) → flat short h q ≡ flat (basis_in i) h q
  flat_whole h its q = sym (flat_stays short left_over h q its) ∙ ap (λ (a : Basis). flat a h q) whole

  -- each arrival so far is the record of its number
  pub came_so : Each (IsNumberedIn i) (arrivals_of (given_in (marked_each (os ∷ xss))))
  came_so = is_legal.came

-- ---- the first records of a port
given_of_port : (p : ℕ) (g : List Given) → given_at p g ≡ filter (λ (a : Arrival). a.port == p) (arrivals_of g)
given_of_port p [] = refl
given_of_port p (Came a ∷ g) = by_test (a.port == p) (given_of_port p g)
  where
    by_test : (b : Bool) → given_at p g ≡ filter (λ (x : Arrival). x.port == p) (arrivals_of g) → (if b then a ∷ given_at p g else given_at p g) ≡ (if b then a ∷ filter (λ (x : Arrival). x.port == p) (arrivals_of g) else filter (λ (x : Arrival). x.port == p) (arrivals_of g))
    by_test true rest = ap (λ (xs : List Arrival). a ∷ xs) rest
    by_test false rest = rest
given_of_port p (Told c ∷ g) = given_of_port p g

own_numbers : (i : Input) (p : ℕ) (xs : List Arrival) → Each (IsNumberedIn i) xs → Each (λ (a : Arrival). numbered (arrivals_in i p) a.index ≡ Some a) (filter (λ (a : Arrival). a.port == p) xs)
own_numbers i p [] all = tt
own_numbers i p (a ∷ xs) all =
    elim (cases_Bool (a.port == p)) [
      | inl e ↦ rw e (subst (λ (q : ℕ). numbered (arrivals_in i q) a.index ≡ Some a) (eqb-true a.port p e) all.0, own_numbers i p xs all.1)
      | inr e ↦ rw e (own_numbers i p xs all.1)
    ]

get_drop : (ys : List Arrival) (n : ℕ) (x : Arrival) → slice_get ys n ≡ Some x → drop n ys ≡ x ∷ drop (suc n) ys
get_drop [] zero x e = absurd (cc)
get_drop [] (suc n) x e = absurd (cc)
get_drop (y ∷ ys) zero x e = (let same : y ≡ x = cc in ap (λ (z : Arrival). z ∷ ys) same)
get_drop (y ∷ ys) (suc n) x e = get_drop ys n x e

head_same : (a b : ℕ) (xs ys : List ℕ) → a ∷ xs ≡ b ∷ ys → a ≡ b
head_same a b xs ys e = cc

tail_same : (a b : ℕ) (xs ys : List ℕ) → a ∷ xs ≡ b ∷ ys → xs ≡ ys
tail_same a b xs ys e = cc

-- arrivals that are numbered one after the other are those of these numbers
firsts_from : (ys xs : List Arrival) (n : ℕ) → indices_of xs ≡ range_with_len (n + 1) (length xs) → Each (λ (a : Arrival). numbered ys a.index ≡ Some a) xs → (k : ℕ) × (xs ≡ take k (drop n ys))
firsts_from ys [] n rises all = (0, refl)
firsts_from ys (x ∷ xs) n rises all =
    let index : x.index ≡ suc n = head_same x.index (n + 1) (indices_of xs) (range_with_len ((n + 1) + 1) (length xs)) rises ∙ add-one n in
    let here : drop n ys ≡ x ∷ drop (suc n) ys = get_drop ys n x (subst (λ (k : ℕ). numbered ys k ≡ Some x) index all.0) in
    let later = firsts_from ys xs (n + 1) (tail_same x.index (n + 1) (indices_of xs) (range_with_len ((n + 1) + 1) (length xs)) rises) all.1 in (
      suc later.0,
      ap (λ (zs : List Arrival). x ∷ zs) (later.1 ∙ ap (λ (k : ℕ). take later.0 (drop k ys)) (add-one n)) ∙ ap (take (suc later.0)) (sym here),
    )

bytes_taken : (k : ℕ) (xs : List Arrival) → map (λ (a : Arrival). a.bytes) (take k xs) ≡ take k (map (λ (a : Arrival). a.bytes) xs)
bytes_taken zero xs = refl
bytes_taken (suc k) [] = refl
bytes_taken (suc k) (x ∷ xs) = ap (λ (fs : List (List ℕ)). x.bytes ∷ fs) (bytes_taken k xs)

-- ---- the outputs of a trace
with_outputs : (t : Shape) (journal : List (List ℕ)) (captures outputs sent : ℕ → List (List ℕ)) (lines : List TraceLine) → ((q : ℕ) → is_external t q ≡ true → outputs q ≡ sent q) → LegalTrace t journal captures outputs lines → LegalTrace t journal captures sent lines
with_outputs t journal captures outputs sent lines same k =
    record {
      so_far = record {
        rule_1 = k.so_far.rule_1;
        rule_2 = k.so_far.rule_2;
        rule_3 = k.so_far.rule_3;
        rule_4 = record { arrived = k.so_far.rule_4.arrived; left = λ q ext. k.so_far.rule_4.left q ext ∙ same q ext };
        rule_5 = k.so_far.rule_5;
      };
      empty = k.empty;
    }

-- ---- so far
module _ (round : TagRoundTrip) (words : SendsAreWords) (leave : SendsLeaveAsFlat) (law : StepsTell) (stay : StepsStayWritten) (tells : SetupsTellLegally) where
  pub runs_tell_so_far : RunsTellSoFar
  runs_tell_so_far m i so_far rest done timely front k = record {
    journal = record { so_far = so_far; rest = rest; segments_are = front; legal = subst (λ (z : Stepped). LegalUpTo i so_far ([] then z.events)) (sym k.is) (up_to round words leave law stay m i so_far rest k.first k.plays k.valid k.vids timely front go k.play) };
    captures = sent;
    trace = record {
      came = captures_of (came_in xs);
      firsts = firsts;
      legal = with_outputs t (journal_of h) (captures_of (came_in xs)) (outputs_of done.left) (frames_out i h) (all_told done.lines)
          (λ q ext. outputs_are q done.left ∙ ap (λ (fs : List Sent). map (λ (x : Sent). x.1) fs) (sent q ext))
          (subst (λ (z : Stepped). LegalTrace t (journal_of ([] then z.events)) (captures_of (came_in xs)) (outputs_of z.left) (all_told z.lines)) (sym k.is)
          ((tells i.setup xs k.valid k.vids k.may).whole (subst (λ (z : Stepped). IsSettled t z.world) k.is rests)));
    };
  }
    where
      t : Shape
      t = tree_of i

      l : Limits
      l = bounds_of i

      xs : List Step
      xs = marked_each (k.first ∷ k.plays)

      g : List Given
      g = given_in (marked_each (k.first ∷ k.plays))

      h : History
      h = [] then done.events

      go : MayGoAll (tree_of i) (bounds_of i) (begin_of i) (marked_each (k.first ∷ k.plays))
      go = runs_stay_low round words leave law stay i.setup (marked_each (k.first ∷ k.plays)) k.valid k.vids k.may

      rests : IsSettled (tree_of i) done.world
      rests = settled round words leave law stay m i so_far done k

      sent : (q : ℕ) → is_external (tree_of i) q ≡ true → left_at q done.left ≡ flat (basis_in i) ([] then done.events) q
      sent q ext =
          let end = kept round words leave law stay m i so_far done k in
          (settled_owes_nothing t l (basis_of i.setup) (begun_of round words leave law stay m i so_far done k) done.world g h done.left end rests q ext).1
          ∙ flat_whole round words leave law stay m i so_far rest k.first k.plays k.valid k.vids timely front go k.play h (kept_commands t l (basis_of i.setup) done.world g h done.left end) q

      firsts : (p : ℕ) → is_external (tree_of i) p ≡ true → (n : ℕ) × (captures_of (came_in (marked_each (k.first ∷ k.plays))) p ≡ take n (frames_in i p))
      firsts p ext =
          let own : List Arrival = filter (λ (a : Arrival). a.port == p) (arrivals_of g) in
          let rises : indices_of own ≡ range_with_len 1 (length own) =
          subst (λ (zs : List Arrival). indices_of zs ≡ range_with_len 1 (length zs)) (given_of_port p g) ((kept round words leave law stay m i so_far done k).follows.indexed p) in
          let found = firsts_from (arrivals_in i p) own 0 rises (own_numbers i p (arrivals_of g) (came_so round words leave law stay m i so_far rest k.first k.plays k.valid k.vids timely front go k.play)) in (
            found.0,
            ap (λ (zs : List Arrival). captures_of zs p) (given_is xs)
                ∙ (ap (λ (zs : List Arrival). map (λ (a : Arrival). a.bytes) zs) found.1 ∙ (bytes_taken found.0 (arrivals_in i p) ∙ ap (take found.0) (bytes_at i p))),
          )
