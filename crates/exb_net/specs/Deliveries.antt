-- What follows an arrival, delivery after delivery.
use Rattle.std.specs.Prelude.{◌≡◌, ℕ, ◌+◌, ◌<◌, ◌≤◌, ◌^◌, true, false, List, []}
use Rattle.exb_model.specs.declared.arrival.Arrival.{Arrival}
use Rattle.exb_world_spec.specs.AllowedSteps.{Can}
use Rattle.exb_world_spec.specs.Worlds.{Arrive}
use Rattle.exb_world_spec.specs.Runs.Sessions.{Each}
use Rattle.exb_net_spec.specs.Nets.{Net, IsNet, is_wired}
use Rattle.exb_net_laws.specs.NetRuns.{Between, Dones, Empties, Handles, tree_in}
use Rattle.exb_net_laws.specs.Deliveries.{AreRun, DeliversTimes, HaveVids, MayCome}
use Rattle.exb_net.specs.declared.crossing.Crossing.{Crossing}
use Rattle.exb_net.specs.declared.node.Node.{Node}
use Rattle.exb_net.specs.Crossings.{all_crossing}
use Rattle.exb_net.specs.NodeViews.{Holds}

-- a frame that arrives at a bridge of a net: what all of them did before, what of that was forgotten, and where they
-- were when that bridge had settled
pub record Turn : Type 0 where
  pub net : Net
  pub bridge : ℕ
  pub arrival : Arrival
  pub dones : Dones
  pub told : Dones
  pub given : Between

-- It could be so.
pub record IsTurn (m : Turn) : Type 0 where
  pub net : IsNet m.net
  pub vids : HaveVids m.net
  pub run : AreRun m.net m.dones
  pub here : m.bridge < m.net.count
  pub handles : Handles m.net m.bridge (Arrive m.arrival) (record { dones = m.dones; queue = [] }) m.given
  pub low : (c p : ℕ) → c < m.net.count → is_wired m.net.wires c p ≡ true → (m.dones c).world.next p ≤ 2 ^ 62

-- After so many deliveries the bridges of the code are there.
pub record HasDelivered {V : Type 0} {X : V → Type 0} (m : Turn) (k : ℕ) (nodes : List (Node V X))
    (waiting : List Crossing) : Type 0 where
  pub now : Between
  pub delivered : DeliversTimes m.net k m.given now
  pub run : AreRun m.net now.dones
  pub may : Each (MayCome m.net) now.queue
  pub holds : Holds m.net now.dones m.told nodes
  pub queue : now.queue ≡ all_crossing waiting

-- ---- the whole
-- A frame may come to a bridge that no wire brings there.
pub record IsComing {V : Type 0} {X : V → Type 0} (n : Net) (b : ℕ) (a : Arrival) (s told : Dones)
    (nodes : List (Node V X)) (queue : List Crossing) : Type 0 where
  pub net : IsNet n
  pub vids : HaveVids n
  pub run : AreRun n s
  pub here : b < n.count
  pub can : Can (tree_in n b) (s b).world (Arrive a)
  pub free : is_wired n.wires b a.port ≡ false
  pub low : (c p : ℕ) → c < n.count → is_wired n.wires c p ≡ true → (s c).world.next p ≤ 2 ^ 62
  pub holds : Holds n s told nodes
  pub none : queue ≡ []

-- It came, and what left for it is between bridges.
pub record Begins {V : Type 0} {X : V → Type 0} (n : Net) (b : ℕ) (a : Arrival) (s told : Dones)
    (nodes : List (Node V X)) (queue : List Crossing) : Type 0 where
  pub given : Between
  pub turn : IsTurn (record { net = n; bridge = b; arrival = a; dones = s; told = told; given = given })
  pub delivered : HasDelivered (record { net = n; bridge = b; arrival = a; dones = s; told = told; given = given }) 0
      nodes queue

-- It came, and then all that crossed wires for it, until no frame is between bridges; at each port at most one.
pub record HasPlayed {V : Type 0} {X : V → Type 0} (n : Net) (b : ℕ) (a : Arrival) (s told : Dones)
    (nodes : List (Node V X)) (queue : List Crossing) : Type 0 where
  pub given : Between
  pub end : Between
  pub times : ℕ
  pub handles : Handles n b (Arrive a) (record { dones = s; queue = [] }) given
  pub empties : Empties n times given end
  pub run : AreRun n end.dones
  pub few : (c p : ℕ) → c < n.count → (end.dones c).world.next p ≤ (s c).world.next p + 1
  pub holds : Holds n end.dones told nodes
  pub none : queue ≡ []
