-- What the history of a bridge in a net holds: its commands, and what arrives at each of its ports.
use Rattle.std.specs.Prelude.{◌≡◌, ℕ, suc, ◌<◌, ◌==◌, Bool, false, if◌then◌else◌, List, [], ◌∷◌, ◌++◌, Option, Some, None, filter_map, length, reverse}
use Rattle.std.specs.List.{range_with_len}
use Rattle.exb_model.specs.declared.event.Event.{Event}
use Rattle.exb_model.specs.declared.event.Event.TheVariants as event
use Rattle.exb_model.specs.FlatBridge.{Sent, flat}
use Rattle.exb_model.specs.History.{History}
use Rattle.exb_model.specs.declared.arrival.Arrival.{Arrival}
use Rattle.exb_model.specs.Input.{arrivals_at, bounds_of, tree_of}
use Rattle.exb_model.specs.LegalHistory.{EachEvent, IsDecided, IsEntered, number_of}
use Rattle.exb_model.specs.Lists.{Pairwise}
use Rattle.exb_net_spec.specs.declared.wires.End.{End}
use Rattle.exb_net_spec.specs.Nets.{Net, IsNet, far_end}
use Rattle.exb_net_spec.specs.NetHistory.{Histories, NetEager, basis_in}
use Rattle.exb_net_spec.specs.InputOrder.{AreTimely}

-- ---- what arrives
-- moments and frames as arrivals at a port, with the indices from n on
abbrev pub arrivals_as : ℕ → ℕ → List Sent → List Arrival
arrivals_as p n [] = []
arrivals_as p n (x ∷ xs) = record { port = p; index = n; moment = x.0; bytes = x.1 } ∷ arrivals_as p (suc n) xs

-- what leaves at an end, by the history of its bridge
abbrev pub leaves_at : Net → Histories → End → List Sent
leaves_at n hs e = flat (basis_in n e.bridge) (hs e.bridge) e.port

-- at port q of bridge b: what leaves at the far end of its wire, where it is wired, and else the records of its capture
abbrev pub arrivals_over : Net → Histories → Option End → ℕ → ℕ → List Arrival
arrivals_over n hs None b q = arrivals_at (n.input b) q
arrivals_over n hs (Some e) b q = arrivals_as q 1 (leaves_at n hs e)

abbrev pub arrivals_in : Net → Histories → ℕ → ℕ → List Arrival
arrivals_in n hs b q = arrivals_over n hs (far_end n.wires b q) b q

-- ---- what a history tells of it
-- the event is one of an arrival at port q
abbrev pub is_at_port : ℕ → Event → Bool
is_at_port q (event.Relay p n t f) = p == q
is_at_port q (event.Ignored p n) = p == q
is_at_port q _ = false

-- the events of port q, the oldest first
unfoldable pub events_at : History → ℕ → List Event
events_at [] q = []
events_at (e ∷ h) q = events_at h q ++ (if is_at_port q e then e ∷ [] else [])

-- The event is that of the arrival. A Relay has its moment and bytes.
abbrev pub IsEventOf : Arrival → Event → Type 0
IsEventOf a (event.Relay p n t f) = a ≡ record { port = p; index = n; moment = t; bytes = f }
IsEventOf a (event.Ignored p n) = (a.port ≡ p) × (a.index ≡ n)
IsEventOf a _ = ⊥

-- The history of bridge b holds its commands, each once and in order, and one is refused exactly where rule 2 of legal
-- histories says so; and of each port what arrives there, each once and by rising index, and one is relayed exactly
-- where rule 5 says so.
pub record HoldsAll (n : Net) (hs : Histories) (b : ℕ) : Type 0 where
  pub commands : filter_map number_of (reverse (hs b)) ≡ range_with_len 1 (length (n.input b).commands)
  pub refused_exactly : EachEvent (IsDecided (tree_of (n.input b)) (bounds_of (n.input b)) (basis_in n b)) (hs b)
  pub arrivals : (q : ℕ) → q < 4160 → Pairwise IsEventOf (arrivals_in n hs b q) (events_at (hs b) q)
  pub relayed_exactly : EachEvent (IsEntered (basis_in n b) (arrivals_in n hs b)) (hs b)

-- ---- laws
-- What arrives at a wired port is, in order, the moments and frames that leave at the far end of its wire.
abbrev pub CrossingsArrive : Type 0
CrossingsArrive =
    (n : Net) (hs : Histories) (b q : ℕ) (e : End) → IsNet n → NetEager n hs → far_end n.wires b q ≡ Some e
    → Pairwise IsEventOf (arrivals_as q 1 (leaves_at n hs e)) (events_at (hs b) q)

-- The history of each bridge holds all that comes to it.
abbrev pub HistoriesHoldAll : Type 0
HistoriesHoldAll = (n : Net) (hs : Histories) (b : ℕ) → IsNet n → AreTimely n → NetEager n hs → b < n.count
    → HoldsAll n hs b
