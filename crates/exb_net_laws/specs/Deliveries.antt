-- Several worlds, however they came where they are, one event after another: that each frame between them may arrive,
-- and that this ends soon.
use Rattle.std.specs.Prelude.{◌≡◌, ◌≢◌, ℕ, zero, suc, ◌+◌, ◌<◌, ◌≤◌, ◌==◌, true, if◌then◌else◌, List, [], length, All}
use Rattle.exb_model.specs.declared.command.Command.{Command}
use Rattle.exb_model.specs.History.{◌then◌}
use Rattle.exb_model.specs.declared.arrival.Arrival.{Arrival}
use Rattle.exb_model.specs.Tree.{is_external}
use Rattle.exb_world_spec.specs.AllowedSteps.{IsSettled}
use Rattle.exb_world_spec.specs.Settling.{run}
use Rattle.exb_world_spec.specs.Steps.{Stepped}
use Rattle.exb_world_spec.specs.Worlds.{Step, Arrive, Order}
use Rattle.exb_world_spec.specs.Runs.Sessions.{Each}
use Rattle.exb_world_spec.specs.Runs.ReachedWorlds.{HasVid, MayTakeAll, beginning}
use Rattle.exb_net_spec.specs.Nets.{Net, IsNet, is_wired}
use Rattle.exb_net_spec.specs.NetHistory.{Crossing, named_at}
use Rattle.exb_net_laws.specs.NetRuns.{Dones, Between, Handles, Delivers, MayPass, AreOpened, tree_in, limits_in, pass}

-- ---- where worlds are
-- Steps that may be made led a bridge from its beginning here, where it is settled. The next index of each of its ports
-- is one more than the arrivals of that port that it told.
pub record IsRun (n : Net) (b : ℕ) (d : Stepped) : Type 0 where
  pub steps : List Step
  pub is : d ≡ run (tree_in n b) (limits_in n b) steps (beginning (n.input b).setup)
  pub may : MayTakeAll (tree_in n b) (limits_in n b) (beginning (n.input b).setup) steps
  pub settled : IsSettled (tree_in n b) d.world
  pub named : (p : ℕ) → d.world.next p ≡ suc (named_at ([] then d.events) p)

abbrev pub AreRun : Net → Dones → Type 0
AreRun n s = (b : ℕ) → b < n.count → IsRun n b (s b)

-- what a setup has by its type
abbrev pub HaveVids : Net → Type 0
HaveVids n = (b : ℕ) → b < n.count → All HasVid (n.input b).setup.start

-- ---- the opening, and seconds
pub record HaveBegun (n : Net) (s : Dones) : Type 0 where
  pub run : AreRun n s
  pub next : (b p : ℕ) → b < n.count → (s b).world.next p ≡ 1

abbrev pub OpenedNetsRun : Type 0
OpenedNetsRun = (n : Net) (s : Dones) → IsNet n → HaveVids n → AreOpened n s → HaveBegun n s

pub record HavePassed (n : Net) (s e : Dones) : Type 0 where
  pub run : AreRun n e
  pub next : (b p : ℕ) → b < n.count → (e b).world.next p ≡ (s b).world.next p

abbrev pub SecondsPass : Type 0
SecondsPass = (n : Net) (seconds : ℕ) (s : Dones) → IsNet n → HaveVids n → AreRun n s → MayPass n seconds s
    → HavePassed n s (pass n seconds s)

-- ---- one event
-- the next index of a port after a step that gives something
abbrev pub next_after : Step → ℕ → ℕ → ℕ
next_after (Arrive a) p k = if a.port == p then suc k else k
next_after _ p k = k

-- The frame comes to a wired external port of a bridge of the net, and isn't long.
pub record MayCome (n : Net) (x : Crossing) : Type 0 where
  pub here : x.bridge < n.count
  pub external : is_external (tree_in n x.bridge) x.port ≡ true
  pub wired : is_wired n.wires x.bridge x.port ≡ true
  pub short : length x.bytes ≤ 9220

-- A bridge was given something, and nothing became of the others. Where all frames between bridges might come, they
-- still may, and a command adds none.
pub record IsHandledOn (n : Net) (b : ℕ) (step : Step) (s e : Between) : Type 0 where
  pub run : AreRun n e.dones
  pub next : (p : ℕ) → (e.dones b).world.next p ≡ next_after step p ((s.dones b).world.next p)
  pub others : (c : ℕ) → c ≢ b → e.dones c ≡ s.dones c
  pub queue : Each (MayCome n) s.queue → Each (MayCome n) e.queue
  pub quiet : (c : Command) → step ≡ Order c → e.queue ≡ s.queue

abbrev pub BridgesHandle : Type 0
BridgesHandle =
    (n : Net) (b : ℕ) (step : Step) (s e : Between) → IsNet n → HaveVids n → AreRun n s.dones → b < n.count
    → Handles n b step s e → IsHandledOn n b step s e

-- ---- deliveries
-- so many were made
abbrev pub DeliversTimes : Net → ℕ → Between → Between → Type 0
DeliversTimes n zero s e = s ≡ e
DeliversTimes n (suc k) s e = (u : Between) × Delivers n s u × DeliversTimes n k u e

-- Since an event each port had at most one arrival; and after as many deliveries as there are wires none is left to be
-- made.
pub record IsSoon (n : Net) (k : ℕ) (s : Dones) (u : Between) : Type 0 where
  pub few : (c p : ℕ) → c < n.count → (u.dones c).world.next p ≤ (s c).world.next p + 1
  pub empty : k ≡ length n.wires → u.queue ≡ []

abbrev pub DeliveriesEndSoon : Type 0
DeliveriesEndSoon =
    (n : Net) (b k : ℕ) (a : Arrival) (s : Dones) (given u : Between) → IsNet n → HaveVids n → AreRun n s
    → b < n.count →
    Handles n b (Arrive a) (record { dones = s; queue = [] }) given → DeliversTimes n k given u → k ≤ length n.wires
    → IsSoon n k s u
