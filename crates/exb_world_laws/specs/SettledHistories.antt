-- What the history of a settled world is, and what lies between two settled moments: the rules on histories, by what
-- was given.
use Rattle.std.specs.Prelude.{◌≡◌, ℕ, ◌+◌, true, List, [], length, map, filter_map, reverse, All, IsPermutation}
use Rattle.std.specs.List.{range_with_len}
use Rattle.exb_model.specs.declared.event.Event.{Event}
use Rattle.exb_model.specs.History.{Basis, History}
use Rattle.exb_model.specs.LegalHistory.{EachEvent, number_of, of_port, place_of, IsRelayOf, IsInOrder, IsDecided, IsEntered}
use Rattle.exb_model.specs.declared.arrival.Arrival.{Arrival}
use Rattle.exb_model.specs.Setup.{Limits}
use Rattle.exb_model.specs.Tree.{Shape, is_external, opening_ports}
use Rattle.exb_world_spec.specs.AllowedSteps.{IsSettled}
use Rattle.exb_world_spec.specs.Settling.{run}
use Rattle.exb_world_spec.specs.Worlds.{World, Step, Left}
use Rattle.exb_flight.specs.NamedArrivals.{times, firsts}
use Rattle.exb_world_laws.specs.WorldInput.{Given, arrivals_of, arrivals_at, commands_of, indices_of, basis_with}
use Rattle.exb_world_laws.specs.OneBridge.{up_port}
use Rattle.exb_world_laws.specs.WorldInvariant.{MayStart, MayDoAll, given_in, Kept}

-- Each external port of an extender went up or was refused that, in order; each command is decided once, in order, and
-- each arrival named once; a port's arrivals are in order; commands are refused exactly where refusals say, and frames
-- relayed exactly where the bridge relays.
pub record IsOrderly (t : Shape) (l : Limits) (i : Basis) (g : List Given) (h : History) : Type 0 where
  pub opened : filter_map up_port (reverse h) ≡ opening_ports t
  pub commands : filter_map number_of (reverse h) ≡ range_with_len 1 (length (commands_of g))
  pub named : (p : ℕ) → is_external t p ≡ true → (n : ℕ) → times n (firsts (of_port p (reverse h)))
      ≡ times n (indices_of (arrivals_at p g))
  pub ordered : (p : ℕ) → is_external t p ≡ true → IsInOrder t (reverse h) p
  pub refused : EachEvent (IsDecided t l (basis_with i g)) h
  pub entered : EachEvent (IsEntered (basis_with i g) (λ p. arrivals_at p g)) h

-- Between two settled moments no automatic up is told; the commands given in between are decided, each once, in order;
-- and the arrivals given in between are named, each once, and no others, a Relay with its arrival's moment and bytes.
pub record IsPlayed (t : Shape) (g more : List Given) (es : List Event) : Type 0 where
  pub none_opened : filter_map up_port es ≡ []
  pub commands : filter_map number_of es ≡ range_with_len (length (commands_of g) + 1) (length (commands_of more))
  pub once : IsPermutation (filter_map place_of es) (map (λ (a : Arrival). (a.port, a.index)) (arrivals_of more))
  pub relays : All (IsRelayOf (arrivals_of more)) es

-- ---- the laws
abbrev pub SettledIsOrderly : Type 0
SettledIsOrderly =
    (t : Shape) (l : Limits) (i : Basis) → MayStart t l i
    → (w : World) (g : List Given) (h : History) (left : List Left) → Kept t l i w g h left → IsSettled t w
    → IsOrderly t l i g h

abbrev pub SegmentsArePlayed : Type 0
SegmentsArePlayed =
    (t : Shape) (l : Limits) (i : Basis) → MayStart t l i
    → (w : World) (g : List Given) (h : History) (left : List Left) → Kept t l i w g h left → IsSettled t w →
    (steps : List Step) → MayDoAll t l w steps → IsSettled t (run t l steps w).world
    → IsPlayed t g (given_in steps) (run t l steps w).events
