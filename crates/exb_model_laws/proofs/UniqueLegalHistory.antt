-- A journal and an input tell one legal history.
use Rattle.std.proofs.Common.{◌≡◌, inl, ℕ, zero, suc, ◌+◌, ◌<◌, ◌≤◌, ◌^◌, ◌==◌, Bool, true, false, cond, List, [], ◌∷◌, ◌++◌, length, map, reverse, refl, sym, ap, subst, ◌∙◌, arith}
use Rattle.std.specs.Prelude.{Option, Some, None, IfSome, filter_map, flat_map, max, slice_get, All}
use Rattle.std.specs.List.{AllByRecursion, cons_option, range_with_len}
use Rattle.std.proofs.lemmas.List.{append_cancel_left, length-map}
use Rattle.std.proofs.lemmas.List.Elements.{recursion_from_All, All-from_recursion, All-contains, All-nil, All-cons}
use Rattle.std.proofs.lemmas.List.Kept.{AllPairs-cons}
use Rattle.std.proofs.lemmas.List.Sorted.{IsPermutation-sym, All-permutation}
use Rattle.exb_model.specs.Ports.{below, all_ports}
use Rattle.exb_model.specs.declared.command.Command.{Command}
use Rattle.exb_model.specs.declared.event.Event.{Event}
use Rattle.exb_model.specs.declared.event.Event.TheVariants as event
use Rattle.exb_model.specs.declared.event.Cause.{Cause}
use Rattle.exb_model.specs.Lists.{Pairwise}
use Rattle.exb_model.specs.Tree.{Shape}
use Rattle.exb_model.specs.Setup.{Limits}
use Rattle.exb_model.specs.History.{History, ◌then◌, command_of, bridge_after}
use Rattle.exb_model.specs.declared.arrival.Arrival.{Arrival}
use Rattle.exb_model.specs.Input.{Input, Given, Record, Coming, Captured, Group, Segment, Mode, Eager, Seeded, basis_of, tree_of, bounds_of, moment_of, second_of, least_or, arrivals_from, arrivals_at, all_arrivals, start_second, commands_from, all_comings, by_moment, merge, joined, alone, groups_in, segments_since, segments_in, segments}
use Rattle.exb_model.specs.EagerHistory.{opening, refusal_of}
use Rattle.exb_model.specs.LegalHistory.{EachEvent, Legal, IsOfSegment, IsDecided, IsRelayOf, PlaysArrivals, PlaysTick, number_of, place_of, tick_of, settled_each}
use Rattle.exb_model.specs.Texts.{journal_text}
use Rattle.exb_model.proofs.LegalPlays.{all_of_segments, all_ticks, all_arrivals as all_arrivals_played}
use Rattle.exb_model_laws.specs.PlayedHistories.{records_at, all_records, all_numbers}
use Rattle.exb_model_laws.specs.UniqueHistory.{IsWord, IsPort, IsRecordOf, IsWritten, JournalTellsLegal, SmallIsWritten}
use Rattle.exb_model_laws.proofs.PortOrder.{reverse-then}
use Rattle.exb_model_laws.proofs.ArrivalOrder.{segments-numbered, each_sorted, each-append}
use Rattle.exb_model_laws.proofs.EagerEvents.{IsNumbered}
use Rattle.exb_model_laws.proofs.PlayedHistories.{legal_plays_input}
use Rattle.exb_model_laws.proofs.UniqueHistory.{Fits, AreAlike, lines, journal_then, EachAfter, lines_tell, one_record}

-- ---- lists
module _ {X : Type 0} where
  each_weaker : (P Q : X → Type 0) (xs : List X) → ((x : X) → P x → Q x) → AllByRecursion P xs → AllByRecursion Q xs
  each_weaker P Q [] f all = tt
  each_weaker P Q (x ∷ xs) f all = (f x all.0, each_weaker P Q xs f all.1)

  both_of : (P Q : X → Type 0) (xs : List X) → AllByRecursion P xs → AllByRecursion Q xs → AllByRecursion (λ x. P x × Q x) xs
  both_of P Q [] all more = tt
  both_of P Q (x ∷ xs) all more = ((all.0, more.0), both_of P Q xs all.1 more.1)

  of_last : (P : X → Type 0) (xs ys : List X) → AllByRecursion P (xs ++ ys) → AllByRecursion P ys
  of_last P [] ys all = all
  of_last P (x ∷ xs) ys all = of_last P xs ys all.1

each_flat : {X Y : Type 0} (P : Y → Type 0) (f : X → List Y) (xs : List X) → AllByRecursion (λ x. AllByRecursion P (f x)) xs → AllByRecursion P (flat_map f xs)
each_flat P f [] all = tt
each_flat P f (x ∷ xs) all = each-append P (f x) (flat_map f xs) all.0 (each_flat P f xs all.1)

each_mapped : {X Y : Type 0} (P : Y → Type 0) (f : X → Y) (xs : List X) → AllByRecursion (λ x. P (f x)) xs → AllByRecursion P (map f xs)
each_mapped P f [] all = tt
each_mapped P f (x ∷ xs) all = (all.0, each_mapped P f xs all.1)

-- what is true of all that g gives is true of what it gives of each
each_given : {X Y : Type 0} (P : Y → Type 0) (g : X → Option Y) (xs : List X) → AllByRecursion P (filter_map g xs) → AllByRecursion (λ x. IfSome (g x) P) xs
each_given {X} {Y} P g [] all = tt
each_given {X} {Y} P g (x ∷ xs) all = by_value (g x) all (each_given P g xs)
  where
    by_value : (o : Option Y) → AllByRecursion P (cons_option o (filter_map g xs)) → (AllByRecursion P (filter_map g xs) → AllByRecursion (λ z. IfSome (g z) P) xs) → IfSome o P × AllByRecursion (λ z. IfSome (g z) P) xs
    by_value None more rest = (tt, rest more)
    by_value (Some y) more rest = (more.0, rest more.1)

each_in_range : (a n : ℕ) → AllByRecursion (λ k. (a ≤ k) × (k < a + n)) (range_with_len a n)
each_in_range a zero = tt
each_in_range a (suc n) =
    ((omega arith, omega arith), each_weaker (λ k. (a + 1 ≤ k) × (k < a + 1 + n)) (λ k. (a ≤ k) × (k < a + suc n)) (range_with_len (a + 1) n) (λ k h. (omega (arith, h.0), omega (arith, h.1))) (each_in_range (a + 1) n))

each_below : (n : ℕ) → AllByRecursion (λ k. k < n) (below n)
unfolding below
each_below n = each_weaker (λ k. (0 ≤ k) × (k < 0 + n)) (λ k. k < n) (range_with_len 0 n) (λ k h. omega (arith, h.1)) (each_in_range 0 n)

-- ---- numbers and places of an input that is written
abbrev IsNumberOf : Input → ℕ → Type 0
IsNumberOf i n = (1 ≤ n) × (n < 1 + length i.commands)

abbrev IsPlaceOf : ℕ × ℕ → Type 0
IsPlaceOf x = IsPort x.0 × IsWord x.1

places_written : (i : Input) → IsWritten i → AllByRecursion IsPlaceOf (all_records i)
unfolding all_records
places_written i w = each_flat IsPlaceOf (records_at i) all_ports (each_weaker (λ p. p < 4160) (λ p. AllByRecursion IsPlaceOf (records_at i p)) all_ports at (each_below 4160))
  where
    at : (p : ℕ) → p < 4160 → AllByRecursion IsPlaceOf (records_at i p)
    at p h =
        each_mapped IsPlaceOf (λ n. (p, n)) (range_with_len 1 (length (i.records p)))
        (each_weaker (λ n. (1 ≤ n) × (n < 1 + length (i.records p))) (λ n. IsPlaceOf (p, n)) (range_with_len 1 (length (i.records p))) (λ n k. (h, omega (arith, k.1, w.records p))) (each_in_range 1 (length (i.records p))))

-- a command with such a number is there
there_is : (xs : List Command) (k : ℕ) → k < length xs → (c : Command) × (slice_get xs k ≡ Some c)
there_is [] k h = absurd (omega arith)
there_is (x ∷ xs) zero h = (x, refl)
there_is (x ∷ xs) (suc k) h = there_is xs k (omega arith)

has_command : (i : Input) (n : ℕ) → IsNumberOf i n → (c : Command) × (command_of (basis_of i) n ≡ Some c)
has_command i zero h = absurd (omega (arith, h.0))
has_command i (suc k) h = there_is (basis_of i).commands k (let e : length (basis_of i).commands ≡ length i.commands = length-map i.commands (λ c. c.command) in omega (arith, e, h.1))

-- ---- seconds of an input that is written
abbrev IsSoon : Coming → Type 0
IsSoon x = IsWord (second_of (moment_of x))

abbrev IsEarly : Arrival → Type 0
IsEarly a = IsWord a.moment

arrivals_early : (p n least : ℕ) (rs : List Record) → IsWord least → AllByRecursion (λ r. IsWord r.time) rs → AllByRecursion IsEarly (arrivals_from p n least rs)
arrivals_early p n least [] h all = tt
arrivals_early p n least (r ∷ rs) h all = let k : IsWord (max least r.time) = omega (arith, h, all.0) in (k, arrivals_early p (suc n) (max least r.time) rs k all.1)

all_early : (i : Input) → IsWritten i → AllByRecursion IsEarly (all_arrivals i)
unfolding all_arrivals arrivals_at
all_early i w =
    each_flat IsEarly (arrivals_at i) all_ports
    (each_weaker (λ p. p < 4160) (λ p. AllByRecursion IsEarly (arrivals_at i p)) all_ports (λ p h. arrivals_early p 1 0 (i.records p) (omega arith) (recursion_from_All (λ r. IsWord r.time) (i.records p) (w.times p))) (each_below 4160))

least_early : (xs : List Arrival) → AllByRecursion IsEarly xs → least_or 0 (map (λ a. second_of a.moment) xs) < 2 ^ 36
least_early [] all = omega arith
least_early (a ∷ xs) all = omega (arith, all.0)

start_early : (i : Input) → IsWritten i → start_second i < 2 ^ 36
unfolding start_second
start_early i w = least_early (all_arrivals i) (all_early i w)

commands_soon : (start n : ℕ) (cs : List Given) → start < 2 ^ 36 → AllByRecursion (λ c. c.at < 2 ^ 32) cs → AllByRecursion IsSoon (commands_from start n cs)
commands_soon start n [] h all = tt
commands_soon start n (c ∷ cs) h all = (omega (arith, h, all.0), commands_soon start (suc n) cs h all.1)

all_soon : (i : Input) → IsWritten i → AllByRecursion IsSoon (all_comings i)
all_soon i w =
    each-append IsSoon (commands_from (start_second i) 1 i.commands) (map Captured (all_arrivals i))
    (commands_soon (start_second i) 1 i.commands (start_early i w) (recursion_from_All (λ c. c.at < 2 ^ 32) i.commands w.seconds))
    (each_mapped IsSoon Captured (all_arrivals i) (each_weaker IsEarly (λ a. IsSoon (Captured a)) (all_arrivals i) (λ a h. omega (arith, h)) (all_early i w)))

-- the seconds of a group are those of one that comes
each_joined : (x : Coming) (gs : List Group) → IsSoon x → AllByRecursion (λ g. IsWord g.second) gs → AllByRecursion (λ g. IsWord g.second) (joined x gs)
each_joined x [] h all = (h, tt)
each_joined x (g ∷ gs) h all = by_same (second_of (moment_of x) == g.second)
  where
    by_same : (b : Bool) → AllByRecursion (λ z. IsWord z.second) (cond b (record g { comings = x ∷ g.comings } ∷ gs) (alone x ∷ g ∷ gs))
    by_same true = all
    by_same false = (h, all)

each_group : (m : Mode) (xs : List Coming) → AllByRecursion IsSoon xs → AllByRecursion (λ g. IsWord g.second) (groups_in m xs)
each_group Eager [] all = tt
each_group Eager (x ∷ xs) all = (all.0, each_group Eager xs all.1)
each_group Seeded [] all = tt
each_group Seeded (x ∷ xs) all = each_joined x (groups_in Seeded xs) all.0 (each_group Seeded xs all.1)

each_since : (second : ℕ) (gs : List Group) → AllByRecursion (λ g. IsWord g.second) gs → AllByRecursion (λ s. IsWord s.seconds) (segments_since second gs)
each_since second [] all = tt
each_since second (g ∷ gs) all = (omega (arith, all.0), each_since g.second gs all.1)

segments_soon : (m : Mode) (i : Input) → IsWritten i → AllByRecursion (λ s. IsWord s.seconds) (segments m i)
unfolding segments merge
segments_soon m i w = in_all (groups_in m (by_moment (all_comings i))) (each_group m (by_moment (all_comings i)) (each_sorted IsSoon (all_comings i) (all_soon i w)))
  where
    in_all : (gs : List Group) → AllByRecursion (λ g. IsWord g.second) gs → AllByRecursion (λ s. IsWord s.seconds) (segments_in gs)
    in_all [] all = tt
    in_all (g ∷ gs) all = each_since g.second (g ∷ gs) all

-- ---- the events of segments
-- it doesn't stand in the opening alone
abbrev IsLater : Event → Type 0
IsLater (event.Up p) = ⊥
IsLater (event.NoUp p x) = ⊥
IsLater e = Unit {0}

abbrev IsRecorded : Input → Event → Type 0
IsRecorded i (event.Relay p n t f) = IsRecordOf i (record { port = p; index = n; moment = t; bytes = f })
IsRecorded i e = Unit {0}

abbrev IsPlayedOf : Input → Event → Type 0
IsPlayedOf i e = IsLater e × IfSome (tick_of e) IsWord × IsRecorded i e

later : (e : Event) → IsOfSegment e → IsLater e
later (event.Relay p n t f) k = tt
later (event.Ignored p n) k = tt
later (event.Tick s) k = tt
later (event.Commit n) k = tt
later (event.Refuse n x) k = tt
later (event.Up p) k = absurd k
later (event.NoUp p x) k = absurd k
later event.Settled k = absurd k

recorded : (i : Input) (arrived : List Arrival) → All (IsNumbered (arrivals_at i)) arrived → (e : Event) → IsRelayOf arrived e → IsRecorded i e
recorded i arrived all (event.Relay p n t f) k = All-contains (IsNumbered (arrivals_at i)) arrived (record { port = p; index = n; moment = t; bytes = f }) all k
recorded i arrived all (event.Ignored p n) k = tt
recorded i arrived all (event.Tick s) k = tt
recorded i arrived all (event.Commit n) k = tt
recorded i arrived all (event.Refuse n x) k = tt
recorded i arrived all (event.Up p) k = tt
recorded i arrived all (event.NoUp p x) k = tt
recorded i arrived all event.Settled k = tt

ticks_soon : (s : Segment) (es : List Event) → IsWord s.seconds → PlaysTick s es → AllByRecursion (λ e. IfSome (tick_of e) IsWord) es
ticks_soon s es soon plays = each_given IsWord tick_of es (subst (AllByRecursion IsWord) (sym plays) (by_test (s.seconds == 0)))
  where
    by_test : (b : Bool) → AllByRecursion IsWord (cond b [] (s.seconds ∷ []))
    by_test true = tt
    by_test false = (soon, tt)

module _ (i : Input) where
  play_of : (s : Segment) (es : List Event) → IsWord s.seconds → AllByRecursion (IsNumbered (arrivals_at i)) s.arrivals → AllByRecursion IsOfSegment es → PlaysTick s es → AllByRecursion (IsRelayOf s.arrivals) es →
      AllByRecursion (IsPlayedOf i) (es ++ event.Settled ∷ [])
  play_of s es soon found inside tick relays =
      each-append (IsPlayedOf i) es (event.Settled ∷ [])
      (all_three es (each_weaker IsOfSegment IsLater es later inside) (ticks_soon s es soon tick)
      (each_weaker (IsRelayOf s.arrivals) (IsRecorded i) es (recorded i s.arrivals (All-from_recursion (IsNumbered (arrivals_at i)) s.arrivals found)) relays))
      ((tt, tt, tt), tt)
    where
      all_three : (xs : List Event) → AllByRecursion IsLater xs → AllByRecursion (λ e. IfSome (tick_of e) IsWord) xs → AllByRecursion (IsRecorded i) xs → AllByRecursion (IsPlayedOf i) xs
      all_three [] a b c = tt
      all_three (x ∷ xs) a b c = ((a.0, b.0, c.0), all_three xs a.1 b.1 c.1)

  plays_of : (ss : List Segment) (plays : List (List Event)) → AllByRecursion (λ s. IsWord s.seconds) ss → AllByRecursion (λ s. AllByRecursion (IsNumbered (arrivals_at i)) s.arrivals) ss →
      AllByRecursion (All IsOfSegment) plays → Pairwise PlaysTick ss plays → Pairwise PlaysArrivals ss plays → AllByRecursion (IsPlayedOf i) (settled_each plays)
  plays_of [] [] soon found inside ticks arrivals = tt
  plays_of (s ∷ ss) (es ∷ plays) soon found inside ticks arrivals =
      each-append (IsPlayedOf i) (es ++ event.Settled ∷ []) (settled_each plays)
      (play_of s es soon.0 found.0 (recursion_from_All IsOfSegment es inside.0) ticks.0 (recursion_from_All (IsRelayOf s.arrivals) es arrivals.0.relays))
      (plays_of ss plays soon.1 found.1 inside.1 ticks.1 arrivals.1)
  plays_of [] (es ∷ plays) soon found inside ticks arrivals = absurd ticks
  plays_of (s ∷ ss) [] soon found inside ticks arrivals = absurd ticks

-- ---- what is known of each event of a legal history behind its opening
module _ (t : Shape) (l : Limits) (i : Input) where
  abbrev IsKnownOf : History → Event → Type 0
  IsKnownOf h (event.Relay p n m f) = IsPort p × IsWord n × IsRecordOf i (record { port = p; index = n; moment = m; bytes = f })
  IsKnownOf h (event.Ignored p n) = IsPort p × IsWord n
  IsKnownOf h (event.Tick s) = IsWord s
  IsKnownOf h (event.Commit n) = IsWord n
  IsKnownOf h (event.Refuse n x) = IsWord n × (refusal_of t l (bridge_after (basis_of i) h) (command_of (basis_of i) n) ≡ Some x)
  IsKnownOf h (event.Up p) = ⊥
  IsKnownOf h (event.NoUp p x) = ⊥
  IsKnownOf h event.Settled = Unit {0}

  known : IsWritten i → (h : History) (e : Event) → IsPlayedOf i e → IfSome (number_of e) (IsNumberOf i) → IfSome (place_of e) IsPlaceOf → IsDecided t l (basis_of i) h e → IsKnownOf h e
  known w h (event.Relay p n m f) played number place decided = (place.0, place.1, played.2)
  known w h (event.Ignored p n) played number place decided = (place.0, place.1)
  known w h (event.Tick s) played number place decided = played.1
  known w h (event.Commit n) played number place decided = omega (arith, number.1, w.commands)
  known w h (event.Refuse n x) played number place decided =
      let there = has_command i n number in
      (omega (arith, number.1, w.commands), ap (refusal_of t l (bridge_after (basis_of i) h)) there.1 ∙ (rw there.1 at decided))
  known w h (event.Up p) played number place decided = absurd played.0
  known w h (event.NoUp p x) played number place decided = absurd played.0
  known w h event.Settled played number place decided = tt

  known_fits : (h : History) (e : Event) → IsKnownOf h e → Fits e
  known_fits h (event.Relay p n m f) k = (k.0, k.1)
  known_fits h (event.Ignored p n) k = k
  known_fits h (event.Tick s) k = k
  known_fits h (event.Commit n) k = k
  known_fits h (event.Refuse n x) k = k.0
  known_fits h (event.Up p) k = absurd k
  known_fits h (event.NoUp p x) k = absurd k
  known_fits h event.Settled k = tt

  known_alike : (h : History) (e g : Event) → IsKnownOf h e → IsKnownOf h g → AreAlike e g
  known_alike h (event.Relay p n m f) (event.Relay q o u g) k j = one_record i p q n o m u f g k.2 j.2
  known_alike h (event.Refuse n x) (event.Refuse m y) k j =
      λ same. inl (one_cause x y (sym k.1 ∙ ap (λ (o : ℕ). refusal_of t l (bridge_after (basis_of i) h) (command_of (basis_of i) o)) same ∙ j.1))
    where
      one_cause : (x y : Cause) → Some x ≡ Some y → x ≡ y
      one_cause x y e = cc
  known_alike h (event.NoUp p x) (event.NoUp q y) k j = absurd k
  known_alike h e g k j = tt

  all_known : IsWritten i → (h : History) (es : List Event) → AllByRecursion (IsPlayedOf i) es → AllByRecursion (λ e. IfSome (number_of e) (IsNumberOf i)) es → AllByRecursion (λ e. IfSome (place_of e) IsPlaceOf) es →
      EachAfter (IsDecided t l (basis_of i)) h es → EachAfter IsKnownOf h es
  all_known w h [] played numbers places decided = tt
  all_known w h (e ∷ es) played numbers places decided = (known w h e played.0 numbers.0 places.0 decided.0, all_known w (e ∷ h) es played.1 numbers.1 places.1 decided.1)

after : (P : History → Event → Type 0) (h : History) (es : List Event) → EachEvent P (h then es) → EachEvent P h × EachAfter P h es
after P h [] all = (all, tt)
after P h (e ∷ es) all = let rest = after P (e ∷ h) es all in (rest.0.0, (rest.0.1, rest.1))

-- ---- two legal histories
module _ (i : Input) (w : IsWritten i) where
  legal_is_known : (m : Mode) (h : History) (legal : Legal m i h) → EachAfter (IsKnownOf (tree_of i) (bounds_of i) i) (opening (tree_of i) (bounds_of i) (basis_of i)) (settled_each legal.plays)
  legal_is_known m h legal =
      let o : History = opening (tree_of i) (bounds_of i) (basis_of i) in
      let es : List Event = settled_each legal.plays in
      let plays = legal_plays_input m i h legal in
      let is : reverse h ≡ reverse o ++ es = ap (λ (k : History). reverse k) legal.segments_in_order ∙ reverse-then o es in
      let numbers : AllByRecursion (IsNumberOf i) (filter_map number_of (reverse h)) =
      recursion_from_All (IsNumberOf i) (filter_map number_of (reverse h))
      (All-permutation (IsNumberOf i) (all_numbers i) (filter_map number_of (reverse h)) (IsPermutation-sym (filter_map number_of (reverse h)) (all_numbers i) plays.commands)
      (All-from_recursion (IsNumberOf i) (all_numbers i) (each_in_range 1 (length i.commands)))) in
      let places : AllByRecursion IsPlaceOf (filter_map place_of (reverse h)) =
      recursion_from_All IsPlaceOf (filter_map place_of (reverse h))
      (All-permutation IsPlaceOf (all_records i) (filter_map place_of (reverse h)) (IsPermutation-sym (filter_map place_of (reverse h)) (all_records i) plays.records)
      (All-from_recursion IsPlaceOf (all_records i) (places_written i w))) in
      let N : Event → Type 0 = λ e. IfSome (number_of e) (IsNumberOf i) in
      let Q : Event → Type 0 = λ e. IfSome (place_of e) IsPlaceOf in
      let D : History → Event → Type 0 = IsDecided (tree_of i) (bounds_of i) (basis_of i) in
      all_known (tree_of i) (bounds_of i) i w o es
      (plays_of i (segments m i) legal.plays (segments_soon m i w) (segments-numbered m i) (recursion_from_All (All IsOfSegment) legal.plays (all_of_segments (segments m i) legal.plays legal.each_played))
      (all_ticks (segments m i) legal.plays legal.each_played) (all_arrivals_played (segments m i) legal.plays legal.each_played))
      (of_last N (reverse o) es (subst (AllByRecursion N) is (each_given (IsNumberOf i) number_of (reverse h) numbers)))
      (of_last Q (reverse o) es (subst (AllByRecursion Q) is (each_given IsPlaceOf place_of (reverse h) places)))
      (after D o es (subst (EachEvent D) legal.segments_in_order legal.refused_exactly)).1

pub journal_tells_legal : JournalTellsLegal
journal_tells_legal i m n h g w legal other is =
    let o : History = opening (tree_of i) (bounds_of i) (basis_of i) in
    let es : List Event = settled_each legal.plays in
    let gs : List Event = settled_each other.plays in
    let texts : journal_text o ++ lines es ≡ journal_text o ++ lines gs =
    sym (journal_then o es) ∙ sym (ap journal_text legal.segments_in_order) ∙ is ∙ ap journal_text other.segments_in_order ∙ journal_then o gs in
    let same : es ≡ gs =
    lines_tell (IsKnownOf (tree_of i) (bounds_of i) i) (known_fits (tree_of i) (bounds_of i) i) (known_alike (tree_of i) (bounds_of i) i) o es gs
    (legal_is_known i w m h legal) (legal_is_known i w n g other) (append_cancel_left (journal_text o) (lines es) (lines gs) texts) in
    legal.segments_in_order ∙ ap (λ (xs : List Event). o then xs) same ∙ sym other.segments_in_order

-- ---- an input that is written
pub small_is_written : SmallIsWritten
small_is_written s c f =
    let b : Given = record { at = 5; command = c } in
    let d : Given = record { at = 6; command = c } in
    let r : Record = record { time = 7; bytes = f } in
    let Q : Given → Type 0 = λ x. x.at < 2 ^ 32 in
    let T : Record → Type 0 = λ x. IsWord x.time in
    let R : Given → Given → Type 0 = λ x y. x.at ≤ y.at in (
      record {
        times = λ p. All-cons T r [] (omega arith) (All-nil T);
        records = λ p. omega arith;
        seconds = All-cons Q b (d ∷ []) (omega arith) (All-cons Q d [] (omega arith) (All-nil Q));
        commands = omega arith;
      },
      AllPairs-cons R b (d ∷ []) (All-cons (R b) d [] (omega arith) (All-nil (R b))) (AllPairs-cons R d [] (All-nil (R d)) (λ i j x h k. absurd (omega arith))),
    )
