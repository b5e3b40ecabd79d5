-- What one event makes of the bridges of a net, told by numbers.
use Rattle.std.specs.Prelude.{◌≡◌, ℕ, ◌+◌, ◌<◌, ◌≤◌, ◌==◌, true, false, if◌then◌else◌, List, [], ◌++◌, length}
use Rattle.exb_model.specs.declared.event.Event.{Event}
use Rattle.exb_model.specs.Input.{Coming, Ordered, Captured}
use Rattle.exb_model.specs.Tree.{is_external}
use Rattle.exb_world_spec.specs.Steps.{Stepped}
use Rattle.exb_world_spec.specs.Worlds.{Left, left_at}
use Rattle.exb_world_spec.specs.Runs.Sessions.{Each}
use Rattle.exb_world_laws.specs.Runs.SegmentRuns.{counted_in}
use Rattle.exb_net_spec.specs.Nets.{Net, IsNet, is_wired}
use Rattle.exb_net_spec.specs.NetHistory.{Due, due_moment}
use Rattle.exb_net_laws.specs.NetRuns.{AreOpened, Dones, PlaysOne, tree_in}
use Rattle.exb_net_laws.specs.Deliveries.{AreRun, HaveVids}

-- ---- what comes
-- how many records it is, and how many of port p
abbrev pub records_in : Coming → ℕ
records_in (Ordered moment k) = 0
records_in (Captured a) = 1

abbrev pub records_of : Coming → ℕ → ℕ
records_of (Ordered moment k) p = 0
records_of (Captured a) p = if a.port == p then 1 else 0

-- how many commands
abbrev pub orders_in : Coming → ℕ
orders_in (Ordered moment k) = 1
orders_in (Captured a) = 0

-- the same of bridge b
abbrev pub records_at : Due → ℕ → ℕ → ℕ
records_at d b p = if d.bridge == b then records_of d.coming p else 0

abbrev pub orders_at : Due → ℕ → ℕ
orders_at d b = if d.bridge == b then orders_in d.coming else 0

-- ---- what was told
-- how many arrivals, and how many commands
abbrev pub entered_in : List Event → ℕ
entered_in es = (counted_in es).relayed + (counted_in es).ignored

abbrev pub decided_in : List Event → ℕ
decided_in es = (counted_in es).commits + (counted_in es).refusals

-- a frame that left an external port at this moment, and isn't long
pub record LeftAt (n : Net) (b time : ℕ) (x : Left) : Type 0 where
  pub port : is_external (tree_in n b) x.port ≡ true
  pub moment : x.moment ≡ time
  pub short : length x.bytes ≤ 9220

-- Of one bridge: its clock goes on by the seconds. Where a command comes to it, it is given and told of at most one
-- more. Records come to ports without a wire alone. Where a record comes to the net, at most one arrives here, and at
-- most one frame leaves each port, at that moment.
pub record IsOneMore (n : Net) (seconds : ℕ) (d : Due) (b : ℕ) (s e : Stepped) : Type 0 where
  pub clock : e.world.table.clock ≡ s.world.table.clock + seconds
  pub given : e.world.control.given ≡ s.world.control.given + orders_at d b
  pub next : (p : ℕ) → is_wired n.wires b p ≡ false → e.world.next p ≡ s.world.next p + records_at d b p
  pub entered : entered_in e.events ≤ entered_in s.events + records_in d.coming
  pub decided : decided_in e.events ≤ decided_in s.events + orders_at d b
  pub more : List Left
  pub left : e.left ≡ s.left ++ more
  pub each : Each (LeftAt n b (due_moment d)) more
  pub few : (q : ℕ) → length (left_at q more) ≤ records_in d.coming

-- All bridges still run, and so it is of each.
pub record AreOneMore (n : Net) (seconds : ℕ) (d : Due) (s e : Dones) : Type 0 where
  pub run : AreRun n e
  pub each : (b : ℕ) → b < n.count → IsOneMore n seconds d b (s b) (e b)

abbrev pub EventsAddOne : Type 0
EventsAddOne =
    (n : Net) (seconds : ℕ) (d : Due) (s e : Dones) → IsNet n → HaveVids n → AreRun n s → d.bridge < n.count
    → PlaysOne n seconds d s e → AreOneMore n seconds d s e

-- ---- after the opening
-- No second has passed, nothing was given, and nothing has left.
pub record IsNew (d : Stepped) : Type 0 where
  pub clock : d.world.table.clock ≡ 0
  pub given : d.world.control.given ≡ 0
  pub entered : entered_in d.events ≡ 0
  pub decided : decided_in d.events ≡ 0
  pub left : d.left ≡ []

abbrev pub OpenedNetsAreNew : Type 0
OpenedNetsAreNew = (n : Net) (s : Dones) → IsNet n → HaveVids n → AreOpened n s → (b : ℕ) → b < n.count → IsNew (s b)
