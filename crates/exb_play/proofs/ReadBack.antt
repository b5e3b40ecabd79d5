-- What was played can be read back: numbers have 64 bits, and the moments of Relays are such as a capture can hold.
use Rattle.std.proofs.Common.{ℕ, ◌<◌, ◌*◌, ◌^◌, List, [], ◌∷◌, ◌++◌, Option, Some, None, All, sym, subst}
use Rattle.std.specs.List.{AllByRecursion}
use Rattle.std.proofs.lemmas.List.Elements.{All-contains, All-cons, All-nil, All-head, All-tail}
use Rattle.exb_model.specs.declared.command.Command.TheVariants as command
use Rattle.exb_model.specs.declared.event.Cause.{Cause}
use Rattle.exb_model.specs.declared.event.Event.{Event}
use Rattle.exb_model.specs.declared.event.Event.TheVariants as event
use Rattle.exb_model.specs.EagerHistory.{opening, risen, up_event, with_ups}
use Rattle.exb_model.specs.History.{Basis, History, ◌then◌, bridge_after}
use Rattle.exb_model.specs.declared.arrival.Arrival.{Arrival}
use Rattle.exb_model.specs.Input.{Input, Segment, Mode, basis_of, bounds_of, tree_of, segments}
use Rattle.exb_model.specs.LegalHistory.{EachEvent, IsRelayOf, Legal, PlaysArrivals, settled_each}
use Rattle.exb_model.specs.Lists.{Pairwise}
use Rattle.exb_model.specs.Refusals.{refusal}
use Rattle.exb_model.specs.Setup.{Limits}
use Rattle.exb_model.specs.Tree.{Shape, opening_ports}
use Rattle.exb_model.proofs.LegalPlays.{all_arrivals}
use Rattle.exb_trace_spec.specs.InputFrames.{IsInTime, RelayFits}
use Rattle.exb_trace_spec.specs.Traversals.{Each}
use Rattle.exb_trace_spec.specs.RoundTrips.{IsOfNumbers}
use Rattle.exb_world_laws.specs.Runs.SegmentRuns.{arrivals_in}
use Rattle.exb_play.specs.BridgeRuns.{CanBeKept}

-- ---- numbers
numbers-behind : (h : History) (es : List Event) → All IsOfNumbers h → All IsOfNumbers es → All IsOfNumbers (h then es)
numbers-behind h [] before more = before
numbers-behind h (e ∷ es) before more = numbers-behind (e ∷ h) es (All-cons IsOfNumbers e h (All-head IsOfNumbers e es more) before) (All-tail IsOfNumbers e es more)

-- those of a history are those of its events
pub numbers-then : (es : List Event) → All IsOfNumbers es → All IsOfNumbers ([] then es)
numbers-then es all = numbers-behind [] es (All-nil IsOfNumbers) all

-- ---- moments
abbrev IsKept : Arrival → Type 0
IsKept a = a.moment < 2 ^ 32 * 1_000_000_000

-- a Relay's moment, whatever stands before it
abbrev Fits : Event → Type 0
Fits (event.Relay p n t f) = IsInTime t
Fits _ = Unit {0}

fits : (h : History) (e : Event) → Fits e → RelayFits h e
fits h (event.Relay p n t f) k = k
fits h (event.Ignored p n) k = tt
fits h (event.Tick s) k = tt
fits h (event.Commit n) k = tt
fits h (event.Refuse n x) k = tt
fits h (event.Up p) k = tt
fits h (event.NoUp p x) k = tt
fits h event.Settled k = tt

fits-then : (h : History) (es : List Event) → EachEvent RelayFits h → Each Fits es → EachEvent RelayFits (h then es)
fits-then h [] before more = before
fits-then h (e ∷ es) before more = fits-then (e ∷ h) es (before, fits h e more.0) more.1

-- no Relay stands in the opening
fits-up : (h : History) (p : ℕ) (o : Option Cause) → RelayFits h (risen p o)
fits-up h p None = tt
fits-up h p (Some x) = tt

fits-ups : (t : Shape) (l : Limits) (b : Basis) (h : History) (ps : List ℕ) → EachEvent RelayFits h → EachEvent RelayFits (with_ups t l b h ps)
fits-ups t l b h [] k = k
fits-ups t l b h (p ∷ ps) k = fits-ups t l b (up_event t l (bridge_after b h) p ∷ h) ps (k, fits-up h p (refusal t l (bridge_after b h) (command.Up p)))

-- arrivals that can be kept
kept-all : (xs : List Arrival) → AllByRecursion IsKept xs → All IsKept xs
kept-all [] k = All-nil IsKept
kept-all (x ∷ xs) k = All-cons IsKept x xs k.0 (kept-all xs k.1)

kept-left : (xs ys : List Arrival) → AllByRecursion IsKept (xs ++ ys) → AllByRecursion IsKept xs
kept-left [] ys k = tt
kept-left (x ∷ xs) ys k = (k.0, kept-left xs ys k.1)

kept-right : (xs ys : List Arrival) → AllByRecursion IsKept (xs ++ ys) → AllByRecursion IsKept ys
kept-right [] ys k = k
kept-right (x ∷ xs) ys k = kept-right xs ys k.1

fits-one : (came : List Arrival) → All IsKept came → (e : Event) → IsRelayOf came e → Fits e
fits-one came all (event.Relay p n t f) k = All-contains IsKept came (record { port = p; index = n; moment = t; bytes = f }) all k
fits-one came all (event.Ignored p n) k = tt
fits-one came all (event.Tick s) k = tt
fits-one came all (event.Commit n) k = tt
fits-one came all (event.Refuse n x) k = tt
fits-one came all (event.Up p) k = tt
fits-one came all (event.NoUp p x) k = tt
fits-one came all event.Settled k = tt

fits-in : (came : List Arrival) → All IsKept came → (es : List Event) → All (IsRelayOf came) es → Each Fits es
fits-in came all [] k = tt
fits-in came all (e ∷ es) k = (fits-one came all e (All-head (IsRelayOf came) e es k), fits-in came all es (All-tail (IsRelayOf came) e es k))

each-append : (xs ys : List Event) → Each Fits xs → Each Fits ys → Each Fits (xs ++ ys)
each-append [] ys a b = b
each-append (x ∷ xs) ys a b = (a.0, each-append xs ys a.1 b)

fits-plays : (ss : List Segment) (plays : List (List Event)) → Pairwise PlaysArrivals ss plays → AllByRecursion IsKept (arrivals_in ss) → Each Fits (settled_each plays)
fits-plays [] [] k kept = tt
fits-plays [] (es ∷ plays) k kept = absurd k
fits-plays (s ∷ ss) [] k kept = absurd k
fits-plays (s ∷ ss) (es ∷ plays) k kept =
    each-append (es ++ event.Settled ∷ []) (settled_each plays)
    (each-append es (event.Settled ∷ []) (fits-in s.arrivals (kept-all s.arrivals (kept-left s.arrivals (arrivals_in ss) kept)) es k.0.relays) (tt, tt))
    (fits-plays ss plays k.1 (kept-right s.arrivals (arrivals_in ss) kept))

-- Where the arrivals of all segments can be kept, each Relay of a history that plays them has such a moment.
pub moments-fit : (m : Mode) (i : Input) (h : History) → Legal m i h → CanBeKept (segments m i) → EachEvent RelayFits h
moments-fit m i h legal kept =
    subst (EachEvent RelayFits) (sym legal.segments_in_order)
    (fits-then (opening (tree_of i) (bounds_of i) (basis_of i)) (settled_each legal.plays)
    (fits-ups (tree_of i) (bounds_of i) (basis_of i) [] (opening_ports (tree_of i)) tt, tt) (fits-plays (segments m i) legal.plays (all_arrivals (segments m i) legal.plays legal.each_played) kept))
