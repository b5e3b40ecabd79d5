-- The arrivals of a history that an input allows came in at ports that have records.
use Rattle.std.proofs.Common.{ℕ, zero, suc, ◌+◌, ◌<◌, ◌==◌, ◌++◌, nat_lt, Bool, true, false, cond, List, [], ◌∷◌, map, Option, Some, None, sym, subst, arith, inl, inr}
use Rattle.std.specs.Prelude.{All, filter_map, flat_map, max}
use Rattle.std.specs.List.{range_with_len, AllByRecursion}
use Rattle.std.proofs.lemmas.Bool.{cases_Bool}
use Rattle.std.proofs.lemmas.List.Elements.{All-nil, All-cons, All-head, All-tail, All-map}
use Rattle.std.proofs.lemmas.List.Sorted.{All-permutation, IsPermutation-sym}
use Rattle.exb_model.specs.declared.command.Command.TheVariants as command
use Rattle.exb_model.specs.declared.event.Cause.{Cause}
use Rattle.exb_model.specs.declared.event.Event.{Event}
use Rattle.exb_model.specs.declared.event.Event.TheVariants as event
use Rattle.exb_model.specs.EagerHistory.{opening, risen, up_event, with_ups}
use Rattle.exb_model.specs.History.{Basis, History, ◌then◌, bridge_after}
use Rattle.exb_model.specs.declared.arrival.Arrival.{Arrival}
use Rattle.exb_model.specs.Input.{Input, Record, Given, Coming, Ordered, Captured, Group, Segment, Mode, Eager, Seeded, all_arrivals, all_comings, alone, arrival_in, arrivals_at, arrivals_from, basis_of, bounds_of, by_moment, commands_from, groups_in, joined, merge, moment_of, put_in_order, second_of, segments, segments_in, segments_since, start_second, tree_of}
use Rattle.exb_model.specs.LegalHistory.{Legal, PlaysArrivals, place_of, settled_each}
use Rattle.exb_model.specs.Lists.{Pairwise}
use Rattle.exb_model.specs.Ports.{below}
use Rattle.exb_model.specs.Refusals.{refusal}
use Rattle.exb_model.specs.Setup.{Limits}
use Rattle.exb_model.specs.Tree.{Shape, is_external, opening_ports}
use Rattle.exb_model.proofs.LegalPlays.{all_arrivals as all_plays}
use Rattle.exb_counters.specs.Laws.{ComeIn, ComesIn, CountsOfInputsAreTheSummary, IsIn, IsOfExternal}
use Rattle.exb_counters.proofs.Summary.{counts_are_the_summary}

all_append : {A : Type 0} (P : A → Type 0) (xs ys : List A) → AllByRecursion P xs → AllByRecursion P ys → AllByRecursion P (xs ++ ys)
all_append P [] ys k j = j
all_append P (x ∷ xs) ys k j = (k.0, all_append P xs ys k.1 j)

-- ---- from arrivals to segments
module _ (P : Arrival → Type 0) where
  abbrev OfArrival : Coming → Type 0
  OfArrival (Ordered moment n) = Unit {0}
  OfArrival (Captured a) = P a

  ports : (f : ℕ → List Arrival) (a n : ℕ) → ((p : ℕ) → p < a + n → AllByRecursion P (f p)) → AllByRecursion P (flat_map f (range_with_len a n))
  ports f a zero each = tt
  ports f a (suc n) each = all_append P (f a) (flat_map f (range_with_len (a + 1) n)) (each a (omega arith)) (ports f (a + 1) n (λ p h. each p (omega (arith, h))))

  of_commands : (start n : ℕ) (cs : List Given) → AllByRecursion OfArrival (commands_from start n cs)
  of_commands start n [] = tt
  of_commands start n (c ∷ cs) = (tt, of_commands start (suc n) cs)

  of_arrivals : (xs : List Arrival) → AllByRecursion P xs → AllByRecursion OfArrival (map Captured xs)
  of_arrivals [] k = tt
  of_arrivals (x ∷ xs) k = (k.0, of_arrivals xs k.1)

  put : (x : Coming) (ys : List Coming) → OfArrival x → AllByRecursion OfArrival ys → AllByRecursion OfArrival (put_in_order x ys)
  put x [] k j = (k, tt)
  put x (y ∷ ys) k j = by_less (nat_lt (moment_of y) (moment_of x)) (put x ys k j.1)
    where
      by_less : (b : Bool) → AllByRecursion OfArrival (put_in_order x ys) → AllByRecursion OfArrival (cond b (y ∷ put_in_order x ys) (x ∷ y ∷ ys))
      by_less true rest = (j.0, rest)
      by_less false rest = (k, j)

  sorted : (xs : List Coming) → AllByRecursion OfArrival xs → AllByRecursion OfArrival (by_moment xs)
  sorted [] k = tt
  sorted (x ∷ xs) k = put x (by_moment xs) k.0 (sorted xs k.1)

  abbrev InGroup : Group → Type 0
  InGroup g = AllByRecursion OfArrival g.comings

  join : (x : Coming) (gs : List Group) → OfArrival x → AllByRecursion InGroup gs → AllByRecursion InGroup (joined x gs)
  join x [] k j = ((k, tt), tt)
  join x (g ∷ gs) k j = by_same (second_of (moment_of x) == g.second)
    where
      by_same : (b : Bool) → AllByRecursion InGroup (cond b (record g { comings = x ∷ g.comings } ∷ gs) (alone x ∷ g ∷ gs))
      by_same true = ((k, j.0), j.1)
      by_same false = ((k, tt), j)

  grouped : (m : Mode) (xs : List Coming) → AllByRecursion OfArrival xs → AllByRecursion InGroup (groups_in m xs)
  grouped Eager [] k = tt
  grouped Eager (x ∷ xs) k = ((k.0, tt), grouped Eager xs k.1)
  grouped Seeded [] k = tt
  grouped Seeded (x ∷ xs) k = join x (groups_in Seeded xs) k.0 (grouped Seeded xs k.1)

  arrivals_in : (xs : List Coming) → AllByRecursion OfArrival xs → AllByRecursion P (filter_map arrival_in xs)
  arrivals_in [] k = tt
  arrivals_in (Ordered moment n ∷ xs) k = arrivals_in xs k.1
  arrivals_in (Captured a ∷ xs) k = (k.0, arrivals_in xs k.1)

  since : (second : ℕ) (gs : List Group) → AllByRecursion InGroup gs → AllByRecursion (λ (s : Segment). AllByRecursion P s.arrivals) (segments_since second gs)
  since second [] k = tt
  since second (g ∷ gs) k = (arrivals_in g.comings k.0, since g.second gs k.1)

  in_all : (gs : List Group) → AllByRecursion InGroup gs → AllByRecursion (λ (s : Segment). AllByRecursion P s.arrivals) (segments_in gs)
  in_all [] k = tt
  in_all (g ∷ gs) k = since g.second (g ∷ gs) k

  -- what holds of all arrivals of an input holds of those of its segments
  in_segments : (m : Mode) (i : Input) → AllByRecursion P (all_arrivals i) → AllByRecursion (λ (s : Segment). AllByRecursion P s.arrivals) (segments m i)
  unfolding segments merge
  in_segments m i all =
      in_all (groups_in m (by_moment (all_comings i)))
      (grouped m (by_moment (all_comings i)) (sorted (all_comings i)
      (all_append OfArrival (commands_from (start_second i) 1 i.commands) (map Captured (all_arrivals i)) (of_commands (start_second i) 1 i.commands) (of_arrivals (all_arrivals i) all))))

-- ---- the ports of arrivals
of_port : (t : Shape) (p n least : ℕ) (rs : List Record) → IsIn t p → AllByRecursion (λ (a : Arrival). IsIn t a.port) (arrivals_from p n least rs)
of_port t p n least [] k = tt
of_port t p n least (r ∷ rs) k = (k, of_port t p (suc n) (max least r.time) rs k)

module _ (i : Input) (only : IsOfExternal i) where
  abbrev IsAt : Arrival → Type 0
  IsAt a = IsIn (tree_of i) a.port

  at_port : (p : ℕ) → p < 4160 → AllByRecursion IsAt (arrivals_at i p)
  unfolding arrivals_at
  at_port p low =
      elim (cases_Bool (is_external (tree_of i) p)) [
        | inl out ↦ of_port (tree_of i) p 1 0 (i.records p) (record { out = out; low = low })
        | inr not ↦ subst (λ (rs : List Record). AllByRecursion IsAt (arrivals_from p 1 0 rs)) (sym (only p not)) tt
      ]

  at_ports : AllByRecursion IsAt (all_arrivals i)
  unfolding all_arrivals below
  at_ports = ports IsAt (arrivals_at i) 0 4160 (λ p h. at_port p (omega (arith, h)))

-- ---- the events of segments
from_all : {A : Type 0} (P : A → Type 0) (xs : List A) → AllByRecursion P xs → All P xs
from_all P [] k = All-nil P
from_all P (x ∷ xs) k = All-cons P x xs k.0 (from_all P xs k.1)

module _ (t : Shape) where
  abbrev HasPlace : (ℕ × ℕ) → Type 0
  HasPlace x = IsIn t x.0

  events_in : (es : List Event) → All HasPlace (filter_map place_of es) → AllByRecursion (ComesIn t) es
  events_in [] k = tt
  events_in (event.Relay p n m f ∷ es) k = (All-head HasPlace (p, n) (filter_map place_of es) k, events_in es (All-tail HasPlace (p, n) (filter_map place_of es) k))
  events_in (event.Ignored p n ∷ es) k = (All-head HasPlace (p, n) (filter_map place_of es) k, events_in es (All-tail HasPlace (p, n) (filter_map place_of es) k))
  events_in (event.Tick s ∷ es) k = (tt, events_in es k)
  events_in (event.Commit n ∷ es) k = (tt, events_in es k)
  events_in (event.Refuse n x ∷ es) k = (tt, events_in es k)
  events_in (event.Up p ∷ es) k = (tt, events_in es k)
  events_in (event.NoUp p x ∷ es) k = (tt, events_in es k)
  events_in (event.Settled ∷ es) k = (tt, events_in es k)

  played_in : (s : Segment) (es : List Event) → PlaysArrivals s es → AllByRecursion (λ (a : Arrival). IsIn t a.port) s.arrivals → AllByRecursion (ComesIn t) es
  played_in s es played all =
      events_in es
      (All-permutation HasPlace (map (λ a. (a.port, a.index)) s.arrivals) (filter_map place_of es) (IsPermutation-sym (filter_map place_of es) (map (λ a. (a.port, a.index)) s.arrivals) played.once)
      (All-map HasPlace (λ a. (a.port, a.index)) s.arrivals (from_all (λ (a : Arrival). IsIn t a.port) s.arrivals all)))

  plays_in : (ss : List Segment) (plays : List (List Event)) → Pairwise PlaysArrivals ss plays → AllByRecursion (λ (s : Segment). AllByRecursion (λ (a : Arrival). IsIn t a.port) s.arrivals) ss →
      AllByRecursion (ComesIn t) (settled_each plays)
  plays_in [] [] played all = tt
  plays_in [] (es ∷ plays) played all = absurd played
  plays_in (s ∷ ss) [] played all = absurd played
  plays_in (s ∷ ss) (es ∷ plays) played all =
      all_append (ComesIn t) (es ++ event.Settled ∷ []) (settled_each plays)
      (all_append (ComesIn t) es (event.Settled ∷ []) (played_in s es played.0 all.0) (tt, tt)) (plays_in ss plays played.1 all.1)

  -- ---- the whole
  come_then : (h : History) (es : List Event) → ComeIn t h → AllByRecursion (ComesIn t) es → ComeIn t (h then es)
  come_then h [] k j = k
  come_then h (e ∷ es) k j = come_then (e ∷ h) es (j.0, k) j.1

  come_up : (p : ℕ) (o : Option Cause) → ComesIn t (risen p o)
  come_up p None = tt
  come_up p (Some x) = tt

  come_ups : (l : Limits) (b : Basis) (h : History) (ps : List ℕ) → ComeIn t h → ComeIn t (with_ups t l b h ps)
  come_ups l b h [] k = k
  come_ups l b h (p ∷ ps) k = come_ups l b (up_event t l (bridge_after b h) p ∷ h) ps (come_up p (refusal t l (bridge_after b h) (command.Up p)), k)

come_in : (m : Mode) (i : Input) (h : History) → IsOfExternal i → Legal m i h → ComeIn (tree_of i) h
come_in m i h only legal =
    subst (ComeIn (tree_of i)) (sym legal.segments_in_order)
    (come_then (tree_of i) (opening (tree_of i) (bounds_of i) (basis_of i)) (settled_each legal.plays)
    (tt, come_ups (tree_of i) (bounds_of i) (basis_of i) [] (opening_ports (tree_of i)) tt)
    (plays_in (tree_of i) (segments m i) legal.plays (all_plays (segments m i) legal.plays legal.each_played)
    (in_segments (λ (a : Arrival). IsIn (tree_of i) a.port) m i (at_ports i only))))

pub counts_of_inputs_are_the_summary : CountsOfInputsAreTheSummary
counts_of_inputs_are_the_summary m i h only legal = counts_are_the_summary (tree_of i) (basis_of i) h (come_in m i h only legal)
