-- Which histories an input allows.
use Rattle.std.specs.Prelude.{◌≡◌, ℕ, ◌<◌, Bool, true, false, ◌==◌, nat_lt, ◌||◌, if◌then◌else◌, List, [], ◌∷◌, ◌++◌, Option, Some, None, reverse, map, flat_map, filter_map, max, MatchBool, All, Contains, IsPermutation}
use Rattle.std.specs.Option.{IsSomeAnd}
use Rattle.exb_model.specs.declared.event.Event.{Event}
use Rattle.exb_model.specs.declared.event.Event.TheVariants as event
use Rattle.exb_model.specs.Lists.{numbered, Pairwise}
use Rattle.exb_model.specs.Tree.{Shape, is_extended}
use Rattle.exb_model.specs.Setup.{Limits}
use Rattle.exb_model.specs.History.{Basis, History, ◌then◌, command_of, bridge_after}
use Rattle.exb_model.specs.Refusals.{refusal}
use Rattle.exb_model.specs.declared.arrival.Arrival.{Arrival}
use Rattle.exb_model.specs.Input.{Input, Segment, Mode, basis_of, tree_of, bounds_of, arrivals_at, segments}
use Rattle.exb_model.specs.EagerHistory.{opening, is_relayed}

-- a fact of each event and the history before it
abbrev pub EachEvent : (History → Event → Type 0) → History → Type 0
EachEvent P [] = Unit {0}
EachEvent P (e ∷ h) = EachEvent P h × P h e

-- ---- rule 1: the opening, then the segments in order, each ended by Settled
-- the events of a segment but for its Settled: a Tick, commands and arrivals
abbrev pub IsOfSegment : Event → Type 0
IsOfSegment event.Settled = ⊥
IsOfSegment (event.Up p) = ⊥
IsOfSegment (event.NoUp p x) = ⊥
IsOfSegment _ = Unit {0}

-- the events that segments played, the oldest first, each with its Settled
abbrev pub settled_each : List (List Event) → List Event
settled_each plays = flat_map (λ es. es ++ event.Settled ∷ []) plays

-- ---- rule 2: a segment's commands, each once, in order, and refused exactly where Refusal says so
abbrev pub number_of : Event → Option ℕ
number_of (event.Commit n) = Some n
number_of (event.Refuse n x) = Some n
number_of _ = None

abbrev pub PlaysCommands : Segment → List Event → Type 0
PlaysCommands s es = filter_map number_of es ≡ s.commands

abbrev pub IsDecided : Shape → Limits → Basis → History → Event → Type 0
IsDecided t l i h (event.Commit n) = IsSomeAnd (command_of i n) (λ c. refusal t l (bridge_after i h) c ≡ None)
IsDecided t l i h (event.Refuse n x) = IsSomeAnd (command_of i n) (λ c. refusal t l (bridge_after i h) c ≡ Some x)
IsDecided t l i h _ = Unit {0}

-- ---- rule 3: a segment's arrivals, each once
-- the port and the index of an arrival's event
abbrev pub place_of : Event → Option (ℕ × ℕ)
place_of (event.Relay p n t f) = Some (p, n)
place_of (event.Ignored p n) = Some (p, n)
place_of _ = None

-- a Relay has its arrival's moment and bytes
abbrev pub IsRelayOf : List Arrival → Event → Type 0
IsRelayOf arrivals (event.Relay p n t f) = Contains arrivals (record { port = p; index = n; moment = t; bytes = f })
IsRelayOf arrivals _ = Unit {0}

pub record PlaysArrivals (s : Segment) (es : List Event) : Type 0 where
  pub once : IsPermutation (filter_map place_of es) (map (λ a. (a.port, a.index)) s.arrivals)
  pub relays : All (IsRelayOf s.arrivals) es

-- ---- rule 4: the order of a port's arrivals
-- the arrivals of port p: the index, and whether it is a Relay
abbrev pub of_port : ℕ → List Event → List (ℕ × Bool)
of_port p [] = []
of_port p (event.Relay q n t f ∷ es) = if q == p then (n, true) ∷ of_port p es else of_port p es
of_port p (event.Ignored q n ∷ es) = if q == p then (n, false) ∷ of_port p es else of_port p es
of_port p (e ∷ es) = of_port p es

-- the numbers rise, from above `low`
abbrev pub Rise : ℕ → List ℕ → Type 0
Rise low [] = Unit {0}
Rise low (n ∷ ns) = (low < n) × Rise n ns

-- the Relays and the late ones among the Ignored, those with a greater index before them, given the
-- greatest index so far
abbrev pub relays_and_late : ℕ → List (ℕ × Bool) → List ℕ
relays_and_late most [] = []
relays_and_late most ((n, relayed) ∷ rest) =
    if relayed || nat_lt n most then n ∷ relays_and_late (max most n) rest else relays_and_late (max most n) rest

-- of a local port all rise; of an extended port the Relays and the late ones among the Ignored do
abbrev pub IsInOrder : Shape → List Event → ℕ → Type 0
IsInOrder t es p =
    MatchBool (is_extended t p) (Rise 0 (relays_and_late 0 (of_port p es))) (Rise 0 (map (λ x. x.0) (of_port p es)))

-- ---- rule 5: a Relay stands only where the bridge relays, and an Ignored only where it doesn't
abbrev pub IsEntered : Basis → (ℕ → List Arrival) → History → Event → Type 0
IsEntered i arrivals h (event.Relay p n t f) = is_relayed (bridge_after i h) p f ≡ true
IsEntered i arrivals h (event.Ignored p n) = IsSomeAnd (numbered (arrivals p) n) (λ a.
    is_relayed (bridge_after i h) p a.bytes ≡ false)
IsEntered i arrivals h _ = Unit {0}

-- ---- rule 6: one Tick of a segment's seconds, where they aren't 0
abbrev pub tick_of : Event → Option ℕ
tick_of (event.Tick seconds) = Some seconds
tick_of _ = None

abbrev pub PlaysTick : Segment → List Event → Type 0
PlaysTick s es = filter_map tick_of es ≡ (if s.seconds == 0 then [] else s.seconds ∷ [])

-- what the events of a segment, without its Settled, play of it: no event of the opening, its commands, its
-- arrivals and its tick
pub record Plays (s : Segment) (es : List Event) : Type 0 where
  pub of_segment : All IsOfSegment es
  pub commands : PlaysCommands s es
  pub arrivals : PlaysArrivals s es
  pub tick : PlaysTick s es

-- Legal(I, H): there are plays, the events of each segment without its Settled, of which the rules hold
pub record Legal (m : Mode) (i : Input) (h : History) : Type 0 where
  pub plays : List (List Event)
  pub segments_in_order : h ≡ (opening (tree_of i) (bounds_of i) (basis_of i) then settled_each plays)
  pub each_played : Pairwise Plays (segments m i) plays
  pub refused_exactly : EachEvent (IsDecided (tree_of i) (bounds_of i) (basis_of i)) h
  pub ports_in_order : (p : ℕ) → IsInOrder (tree_of i) (reverse h) p
  pub relayed_exactly : EachEvent (IsEntered (basis_of i) (arrivals_at i)) h
