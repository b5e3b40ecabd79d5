-- What was gathered follows the segments so far: it can be played, and the programme goes on behind it.
use Rattle.std.proofs.Common.{◌≡◌, ℕ, zero, suc, ◌+◌, ◌-◌, ◌*◌, ◌^◌, ◌<◌, ◌≤◌, ◌==◌, Bool, true, false, List, [], ◌∷◌, ◌++◌, length, map, drop, take, All, refl, ap, sym, subst, ◌∙◌, arith, inl, inr, eq-eqb, append_assoc, length-append}
use Rattle.std.specs.Prelude.{Option, Some, None, if◌then◌else◌, filter_map, flat_map}
use Rattle.std.specs.List.{AllByRecursion}
use Rattle.std.proofs.lemmas.Bool.{cases_eq, ne_eqb}
use Rattle.std.proofs.lemmas.Grind.{flat_map-append}
use Rattle.std.proofs.lemmas.List.{append-nil}
use Rattle.std.proofs.lemmas.List.Sums.{sum_by-append}
use Rattle.exb_model.specs.declared.setup.Timed.{Timed}
use Rattle.exb_model.specs.declared.command.Command.{Command}
use Rattle.exb_model.specs.History.{command_of}
use Rattle.exb_model.specs.declared.arrival.Arrival.{Arrival}
use Rattle.exb_model.specs.Input.{Input, Segment, Coming, Mode, basis_of, tree_of, given_by, segment_of, seconds_after, segments_after}
use Rattle.exb_model.specs.Setup.{Limits, NamesExternal}
use Rattle.exb_model.specs.Tree.{Shape, is_external}
use Rattle.exb_world_spec.specs.AllowedSteps.{MayArrive}
use Rattle.exb_world_spec.specs.Steps.{stepped}
use Rattle.exb_world_spec.specs.Worlds.{World, Step, Arrive, Order, Tick}
use Rattle.exb_timeline.specs.MergeOrder.{begins_in, still_to_come}
use Rattle.exb_timeline.specs.declared.bridge_timeline.Next.{Next}
use Rattle.exb_timeline.specs.declared.bridge_timeline.Timeline.{Timeline}
use Rattle.exb_timeline.specs.Timelines.{IsComing, IsProgramme, played_with}
use Rattle.exb_timeline.specs.CaptureMerges.{left_in}
use Rattle.exb_world.specs.WorldContracts.{Network, world_of, bounds_of as limits_in}
use Rattle.exb_world_laws.specs.Runs.SegmentRuns.{RunsAreUnderWay, arrivals_in}
use Rattle.exb_play.specs.BridgeRuns.{HasTold, Player, Run, Told}
use Rattle.exb_schedule.specs.SegmentRuns.{CanAll, CanFrom, IsSegment, arrive, gives, letters_in, orders, tick}
use Rattle.exb_play.specs.declared.feed.Feed.{Feed}
use Rattle.exb_play.specs.BridgeRuns.{CanBeKept}
use Rattle.exb_play.specs.RunInvariants.{CanGoOn, CanFollow, IsGathered, IsGoingOn, IsSinceLast, LeadsOn, commands_played, second_by, seconds_played}
use Rattle.exb_play.proofs.NextIndices.{arrive_next, order_next, order_given, tick_next, tick_given}
use Rattle.exb_play.proofs.SegmentLemmas.{segments_after-next}
use Rattle.exb_play.proofs.TakenEvents.{GoesOnBehind, HasCommands, HavePlaces, IsFit, arrivals-fit, arrivals_by, at-more, at_port, came_by, comes-commands, comes-from, comes-later, comes-size, comes-start, goes-behind, group-is, has-commands, take-front}

-- ---- steps that may be made
-- the next index of each port follows the arrivals so far, and so many commands were given
pub record Follows (w : World) (given : ℕ) (came : List Arrival) : Type 0 where
  pub next : (p : ℕ) → w.next p ≡ length (at_port p came) + 1
  pub many : w.control.given ≡ given

module _ (t : Shape) (l : Limits) where
  -- one arrival more
  arrived-next : (w : World) (given : ℕ) (came : List Arrival) (a : Arrival) → Follows w given came → (p : ℕ) →
      (stepped t l (Arrive a) w).world.next p ≡ length (at_port p (came ++ a ∷ [])) + 1
  arrived-next w given came a f p =
      arrive_next t l w a p
      ∙ elim (cases_eq p a.port) [
        | inl same ↦
            rw (eq-eqb p a.port same) (
            (let own = f.next a.port in
            let port = ap (λ q. length (at_port q came)) same in
            let more = at-more p came a true (eq-eqb a.port p (sym same)) in
            omega (arith, own, port, more))
            )
        | inr other ↦
            rw (ne_eqb p a.port other) (
            (let own = f.next p in
            let more = at-more p came a false (ne_eqb a.port p (λ e. other (sym e))) in
            omega (arith, own, more))
            )
      ]

  can-arrive : (i : Input) (frames : List Arrival) (w : World) (given : ℕ) (before : List Arrival) → t ≡ tree_of i → Follows w given before → HavePlaces i before frames → AllByRecursion IsFit frames →
      CanFrom t l w (arrive frames)
  can-arrive i [] w given before is f places fit = tt
  can-arrive i (a ∷ frames) w given before is f places fit =
      let may : MayArrive t w a.port a.index (length a.bytes) = record {
        external = ap (λ (s : Shape). is_external s a.port) is ∙ places.0.external;
        next = places.0.index ∙ sym (f.next a.port);
        few = fit.0.few;
        short = fit.0.short;
      } in
      let v : World = (stepped t l (Arrive a) w).world in
      (may, can-arrive i frames v v.control.given (before ++ a ∷ []) is (record { next = arrived-next w given before a f; many = refl }) places.1 fit.1)

  -- commands, and then what may be made behind them
  can-order : (cs : List Timed) (w : World) (given : ℕ) (before : List Arrival) (rest : List Step) → Follows w given before → AllByRecursion (λ (c : Timed). NamesExternal t c.command) cs →
      given + length cs ≤ 65536 → ((v : World) → Follows v (given + length cs) before → CanFrom t l v rest) → CanFrom t l w (orders cs ++ rest)
  can-order [] w given before rest f names few then_can = then_can w (record { next = f.next; many = f.many ∙ none given })
    where
      none : (n : ℕ) → n ≡ n + 0
      none n = omega arith
  can-order (c ∷ cs) w given before rest f names few then_can =
      let v : World = (stepped t l (Order c.command) w).world in
      let low : w.control.given < 65536 = (let own = f.many in omega (arith, own, few)) in
      let follows : Follows v (given + 1) before = record {
        next = λ p. order_next t l w c.command p ∙ f.next p;
        many = order_given t l w c.command ∙ ap (λ n. n + 1) f.many;
      } in (
        (names.0, low),
        can-order cs v (given + 1) before rest follows names.1 (omega (arith, few)) (λ u g. then_can u (record { next = g.next; many = g.many ∙ shift given (length cs) })),
      )
    where
      shift : (n k : ℕ) → n + 1 + k ≡ n + suc k
      shift n k = omega arith

  -- the seconds first
  can-tick : (w : World) (seconds given : ℕ) (before : List Arrival) (rest : List Step) → Follows w given before → w.table.clock + seconds < 2 ^ 63 →
      ((v : World) → Follows v given before → CanFrom t l v rest) → CanFrom t l w (tick seconds ++ rest)
  can-tick w seconds given before rest f clock then_can = by_test (seconds == 0) refl
    where
      some-seconds : (n : ℕ) → n == 0 ≡ false → 1 ≤ n
      some-seconds zero e = absurd (cc)
      some-seconds (suc n) e = omega arith

      by_test : (b : Bool) → seconds == 0 ≡ b → CanFrom t l w ((if b then [] else Tick seconds ∷ []) ++ rest)
      by_test true e = then_can w f
      by_test false e = (
        (some-seconds seconds e, clock),
        then_can (stepped t l (Tick seconds) w).world
            (record { next = λ p. tick_next t l w seconds p ∙ f.next p; many = tick_given t l w seconds ∙ f.many }),
      )

-- it may be made in the network where it may be in the world of the run
can-in : (m : Mode) (i : Input) (so_far : List Segment) (n : Network) (told : Told) (p : HasTold m i so_far n told) (steps : List Step) →
    CanFrom (tree_of i) (limits_in n) p.done.world steps → CanAll n steps
can-in m i so_far n told p steps can =
    let P : Shape → Type 0 = λ t. CanFrom t (limits_in n) (world_of n) steps in
    let Q : World → Type 0 = λ w. CanFrom (tree_of i) (limits_in n) w steps in
    subst P (sym p.tree) (subst Q (sym p.world) can)

-- ---- what is kept of a segment
pub kept-append : (xs ys : List Arrival) → AllByRecursion (λ (a : Arrival). a.moment < 2 ^ 32 * 1_000_000_000) xs → AllByRecursion (λ (a : Arrival). a.moment < 2 ^ 32 * 1_000_000_000) ys →
    AllByRecursion (λ (a : Arrival). a.moment < 2 ^ 32 * 1_000_000_000) (xs ++ ys)
kept-append [] ys one two = two
kept-append (x ∷ xs) ys one two = (one.0, kept-append xs ys one.1 two)

kept-fit : (xs : List Arrival) → AllByRecursion IsFit xs → AllByRecursion (λ (a : Arrival). a.moment < 2 ^ 32 * 1_000_000_000) xs
kept-fit [] all = tt
kept-fit (x ∷ xs) all = (all.0.moment, kept-fit xs all.1)

-- the arrivals and the commands of one segment more
arrivals-more : (so_far : List Segment) (s : Segment) → arrivals_in (so_far ++ s ∷ []) ≡ arrivals_in so_far ++ s.arrivals
arrivals-more so_far s = flat_map-append (λ (x : Segment). x.arrivals) so_far (s ∷ []) ∙ ap (λ (came : List Arrival). arrivals_in so_far ++ came) (append-nil s.arrivals)

abbrev given_in : Input → List Segment → List Command
given_in i so_far = flat_map (λ (s : Segment). filter_map (command_of (basis_of i)) s.commands) so_far

given-more : (i : Input) (so_far : List Segment) (s : Segment) → given_in i (so_far ++ s ∷ []) ≡ given_in i so_far ++ filter_map (command_of (basis_of i)) s.commands
given-more i so_far s =
    flat_map-append (λ (x : Segment). filter_map (command_of (basis_of i)) x.commands) so_far (s ∷ [])
    ∙ ap (λ (cs : List Command). given_in i so_far ++ cs) (append-nil (filter_map (command_of (basis_of i)) s.commands))

-- commands from a place on
names-from : (t : Shape) (cs : List Timed) → All (λ (c : Timed). NamesExternal t c.command) cs → AllByRecursion (λ (c : Timed). NamesExternal t c.command) cs
names-from t [] all = tt
names-from t (c ∷ cs) all = (all 0 c (omega arith), names-from t cs (λ k d low. all (suc k) d (omega (arith, low))))

names-drop : (t : Shape) (cs : List Timed) (k : ℕ) → AllByRecursion (λ (c : Timed). NamesExternal t c.command) cs → AllByRecursion (λ (c : Timed). NamesExternal t c.command) (drop k cs)
names-drop t cs zero all = all
names-drop t [] (suc k) all = tt
names-drop t (c ∷ cs) (suc k) all = names-drop t cs k all.1

names-front : (t : Shape) (xs ys : List Timed) → AllByRecursion (λ (c : Timed). NamesExternal t c.command) (xs ++ ys) → AllByRecursion (λ (c : Timed). NamesExternal t c.command) xs
names-front t [] ys all = tt
names-front t (x ∷ xs) ys all = (all.0, names-front t xs ys all.1)

-- ---- what was gathered
-- Behind these segments one more was gathered: what came first, in this second, and all that came with it.
module _ (tells : Type 0) (r : Run) (p : Player) (last : Option ℕ) (second from : ℕ) (f : Feed) (k : CanGoOn tells r p last second from f) where
  abbrev m : Mode
  m = p.mode

  abbrev i : Input
  i = r.input

  abbrev so_far : List Segment
  so_far = k.so_far

  abbrev a : Timeline
  a = k.old

  abbrev now : IsGoingOn r.input k.so_far last k.old
  now = k.next

  abbrev got : IsGathered tells p.mode k.given p.disk second k.old f
  got = k.got

  abbrev fine : IsProgramme p.disk.ids f.programme
  fine = k.programme

  abbrev seconds : ℕ
  seconds = seconds_after last second

  abbrev b : Timeline
  b = f.programme

  abbrev all : List Next
  all = got.first ∷ got.more

  abbrev came : List Arrival
  came = arrivals_by (got.first ∷ got.more)

  abbrev pub next_segment : Segment
  next_segment = segment_of seconds (came_by (got.first ∷ got.more))

  pub taken : HasCommands i a f.programme (got.first ∷ got.more)
  taken = has-commands i a b all now.given got.comes

  commands : f.programme.commands.now ≡ a.commands.now
  commands = comes-commands a b all got.comes

  behind : GoesOnBehind i (arrivals_in so_far) (arrivals_by (got.first ∷ got.more)) f.programme
  behind = goes-behind i (arrivals_in so_far) a b all got.comes now.counted now.external

  kept : CanBeKept (so_far ++ segment_of seconds (came_by (got.first ∷ got.more)) ∷ [])
  kept =
      let P : List Arrival → Type 0 = AllByRecursion (λ (x : Arrival). x.moment < 2 ^ 32 * 1_000_000_000) in
      subst P (sym (arrivals-more so_far next_segment)) (kept-append (arrivals_in so_far) came now.kept (kept-fit came (arrivals-fit a b all got.comes)))

  counted : commands_played i (so_far ++ segment_of seconds (came_by (got.first ∷ got.more)) ∷ []) ≡ f.programme.taken
  counted =
      let whole = ap (λ (cs : List Command). length cs) (given-more i so_far next_segment) in
      let both = length-append (given_in i so_far) (filter_map (command_of (basis_of i)) next_segment.commands) in
      let own = ap (λ (cs : List Command). length cs) taken.numbers in
      let mapped = length-map-of taken.given in
      let was = now.taken in
      let more = taken.many in
      omega (arith, whole, both, own, mapped, was, more)
    where
      length-map-of : (cs : List Timed) → length (map (λ (c : Timed). c.command) cs) ≡ length cs
      length-map-of [] = refl
      length-map-of (c ∷ cs) = ap suc (length-map-of cs)

  -- 16 bytes were read for each arrival
  bytes : 16 * length (arrivals_in (so_far ++ segment_of seconds (came_by (got.first ∷ got.more)) ∷ [])) + left_in f.programme.captures ≤ 2 ^ 53
  bytes =
      let whole = ap (λ (xs : List Arrival). length xs) (arrivals-more so_far next_segment) in
      let both = length-append (arrivals_in so_far) came in
      let size = comes-size a b all got.comes in
      let was = now.few_bytes in
      omega (arith, whole, both, size, was)

  -- the seconds that pass, and all so far
  since-seconds : (seconds ≤ second) × (seconds_played so_far + seconds + a.start ≤ second) × (second < a.start + 2 ^ 32)
  since-seconds = by_last last now.since refl
    where
      one : IsComing a got.first got.comes.0
      one = let (n, is, rest) = got.comes in is

      begins : a.start ≤ second
      begins = (let from = one.from in let own = got.is_first in omega (arith, from, own))

      low : second < a.start + 2 ^ 32
      low = (let before = one.before in let own = got.is_first in omega (arith, before, own))

      by_last : (l : Option ℕ) → IsSinceLast l so_far a → seconds ≡ seconds_after l second → (seconds ≤ second) × (seconds_played so_far + seconds + a.start ≤ second) × (second < a.start + 2 ^ 32)
      by_last None none is =
          let nothing : seconds_played so_far ≡ 0 = ap seconds_played none in
          let first = begins in
          (omega (arith, is), omega (arith, is, nothing, first), low)
      by_last (Some l) (before, within, from) is =
          let later : l ≤ second = (let more = comes-later a got.comes.0 got.first l one from in let own = got.is_first in omega (arith, more, own)) in
          (omega (arith, is), omega (arith, is, later, before), low)

  pub short : seconds < 2 ^ 32
  short = let (one, two, three) = since-seconds in omega (arith, two, three)

  -- the programme goes on
  pub going-on : IsGoingOn i (so_far ++ segment_of seconds (came_by (got.first ∷ got.more)) ∷ []) (Some second) f.programme
  going-on = record {
    given = now.given ∙ ap (map given_by) (sym commands);
    names = (let P : List Timed → Type 0 = All (λ (c : Timed). NamesExternal (tree_of i) c.command) in subst P (sym commands) now.names);
    external = behind.external;
    taken = counted;
    counted = λ q. ap (λ (xs : List Arrival). length (at_port q xs) + 1) (arrivals-more so_far next_segment) ∙ behind.counted q;
    kept = kept;
    few_bytes = bytes;
    since =
        (let (one, two, three) = since-seconds in
        let whole = sum_by-append (λ (x : Segment). x.seconds) so_far (next_segment ∷ []) in
        let start = comes-start a b all got.comes in
        (omega (arith, two, whole, start), omega (arith, three, start), comes-from a b got.first got.more second got.comes got.is_first got.within));
  }

  -- and leads on, where the files are told
  pub leading-on : tells → LeadsOn m i so_far last k.given a → LeadsOn m i (so_far ++ segment_of seconds (came_by (got.first ∷ got.more)) ∷ []) (Some second) p.disk f.programme
  leading-on t led =
      let (rest, order, replays) = got.takes t led.streams led.replays in
      record {
        streams = rest;
        replays = replays;
        rest =
            led.rest ∙ ap (λ (xs : List Coming). so_far ++ segments_after m last xs) order
            ∙ ap (λ (ss : List Segment). so_far ++ ss)
            (segments_after-next m last (record { second = second_by got.first; comings = came_by all }) (came_by all ++ still_to_come (played_with rest b)) (still_to_come (played_with rest b))
            (group-is m got.first got.more (still_to_come (played_with rest b)) got.alone
            (subst (λ (s : ℕ). AllByRecursion (λ d. second_by d ≡ s) got.more) (sym got.is_first) got.within)
            (λ seeded. subst (λ (s : ℕ). begins_in s (still_to_come (played_with rest b)) ≡ false) (sym got.is_first) (got.whole t seeded rest replays))))
            ∙ ap (λ (s : ℕ). so_far ++ segment_of (seconds_after last s) (came_by all) ∷ segments_after m (Some s) (still_to_come (played_with rest b))) got.is_first
            ∙ sym (append_assoc so_far (next_segment ∷ []) (segments_after m (Some second) (still_to_come (played_with rest b))));
      }

  -- the segment of what was gathered
  pub is-segment : (cs : List Timed) → cs ≡ taken.given → (frames : List Arrival) → frames ≡ f.gathered.items → IsSegment i (segment_of seconds (came_by (got.first ∷ got.more))) seconds cs frames
  is-segment cs given_are frames frames_are = record {
    seconds_are = refl;
    commands = taken.numbers ∙ ap (map (λ (c : Timed). c.command)) (sym given_are);
    arrivals_are = sym got.arrivals_are ∙ sym frames_are;
  }

  few-commands : f.programme.taken ≤ 65536
  few-commands = let within = fine.taken in let few = fine.few in omega (arith, within, few)

  pub follows : CanFollow i (so_far ++ segment_of seconds (came_by (got.first ∷ got.more)) ∷ [])
  follows = record {
    kept = kept;
    few_arrivals = (let few = bytes in omega (arith, few));
    few_commands = (let own = counted in let few = few-commands in omega (arith, own, few));
  }

  -- the commands that were taken, and the letters of those that are left
  pub commands-are : take (f.programme.taken - a.taken) (drop a.taken f.programme.commands.now) ≡ taken.given
  commands-are =
      let many : b.taken - a.taken ≡ length taken.given = (let more = taken.many in omega (arith, more)) in
      ap (λ k. take k (drop a.taken b.commands.now)) many ∙ ap (λ (cs : List Timed). take (length taken.given) (drop a.taken cs)) commands
      ∙ ap (take (length taken.given)) taken.row ∙ take-front taken.given (drop b.taken b.commands.now)

  pub letters-are : letters_in (drop a.taken f.programme.commands.now) ≡ letters_in taken.given + letters_in (drop f.programme.taken f.programme.commands.now)
  letters-are =
      ap (λ (cs : List Timed). letters_in (drop a.taken cs)) commands ∙ ap letters_in taken.row
      ∙ sum_by-append (λ (c : Timed). length c.fate) taken.given (drop b.taken b.commands.now)

  -- and it can be played
  module _ (law : RunsAreUnderWay) where
    abbrev net : Network
    net = p.world

    abbrev played : HasTold p.mode r.input k.so_far p.world k.is.told
    played = k.is.played

    pub can-play : (cs : List Timed) → cs ≡ taken.given → (frames : List Arrival) → frames ≡ f.gathered.items → CanAll net (gives seconds cs frames)
    can-play cs given_are frames frames_are =
        let t : Shape = tree_of i in
        let l : Limits = limits_in net in
        let w : World = played.done.world in
        let way = law m i so_far played.done played.plays in
        let begun : Follows w a.taken (arrivals_in so_far) = record { next = way.next; many = way.commands ∙ now.taken } in
        let clock : w.table.clock + seconds < 2 ^ 63 =
        (let is = way.clock in let (one, two, three) = since-seconds in let start = fine.start in let same = comes-start a b all got.comes in omega (arith, is, two, three, start, same)) in
        let fit = arrivals-fit a b all got.comes in
        let names : AllByRecursion (λ (c : Timed). NamesExternal t c.command) taken.given =
        names-front t taken.given (drop b.taken b.commands.now)
        (subst (AllByRecursion (λ (c : Timed). NamesExternal t c.command)) taken.row (names-drop t a.commands.now a.taken (names-from t a.commands.now now.names))) in
        let few : a.taken + length taken.given ≤ 65536 = (let more = taken.many in let most = few-commands in omega (arith, more, most)) in
        let P : List Step → Type 0 = λ steps. CanFrom t l w (tick seconds ++ (orders taken.given ++ steps)) in
        let can : P (arrive frames) =
        subst P (sym (ap arrive (frames_are ∙ got.arrivals_are)))
        (can-tick t l w seconds a.taken (arrivals_in so_far) (orders taken.given ++ arrive came) begun clock
        (λ v g. can-order t l taken.given v a.taken (arrivals_in so_far) (arrive came) g names few
        (λ u h. can-arrive t l i came u (a.taken + length taken.given) (arrivals_in so_far) refl h behind.places fit))) in
        can-in m i so_far net k.is.told played (gives seconds cs frames) (subst (λ (xs : List Timed). CanFrom t l w (gives seconds xs frames)) (sym given_are) can)
