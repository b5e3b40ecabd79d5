-- Runs of several worlds, each one of a net's bridges.
use Rattle.std.specs.Prelude.{◌≡◌, ℕ, zero, suc, ◌-◌, ◌<◌, ◌==◌, ◌++◌, false, if◌then◌else◌, List, [], ◌∷◌, Some, flat_map}
use Rattle.exb_model.specs.declared.command.Command.{Command}
use Rattle.exb_model.specs.History.{command_of}
use Rattle.exb_model.specs.declared.arrival.Arrival.{Arrival}
use Rattle.exb_model.specs.Input.{Coming, Ordered, Captured, tree_of, bounds_of}
use Rattle.exb_model.specs.Setup.{Limits}
use Rattle.exb_model.specs.Tree.{Shape, external_ports}
use Rattle.exb_world_spec.specs.AllowedSteps.{Can, IsSettled}
use Rattle.exb_world_spec.specs.Settling.{run, followed_by}
use Rattle.exb_world_spec.specs.Steps.{Stepped}
use Rattle.exb_world_spec.specs.Worlds.{World, Step, Arrive, Order, Tick, Mark, Left, left_at}
use Rattle.exb_world_spec.specs.Runs.SessionLaws.{IsMove}
use Rattle.exb_world_spec.specs.Runs.Sessions.{Each}
use Rattle.exb_world_laws.specs.OneBridgeSteps.{IsGiving}
use Rattle.exb_world_spec.specs.Runs.ReachedWorlds.{MayTakeAll, beginning}
use Rattle.exb_net_spec.specs.Nets.{Net, far_end}
use Rattle.exb_net_spec.specs.NetHistory.{Crossing, Due, crosses, basis_in, due_second}

-- what each bridge did so far, and where its world is
abbrev pub Dones : Type 0
Dones = ℕ → Stepped

-- and the frames that are between bridges
pub record Between : Type 0 where
  pub dones : Dones
  pub queue : List Crossing

abbrev pub tree_in : Net → ℕ → Shape
tree_in n b = tree_of (n.input b)

abbrev pub limits_in : Net → ℕ → Limits
limits_in n b = bounds_of (n.input b)

-- what bridge b does by these steps
abbrev pub does : Net → ℕ → List Step → Dones → Stepped
does n b steps ds = run (tree_in n b) (limits_in n b) steps (ds b).world

-- it goes on by them, and the others stay
abbrev pub goes_on : Net → ℕ → List Step → Dones → Dones
goes_on n b steps ds c = if c == b then followed_by (ds b) (does n b steps ds) else ds c

-- of what left bridge b the frames at its wired ports, in port order
abbrev pub crossed : Net → ℕ → List Left → List Crossing
crossed n b left = flat_map (λ q. crosses (far_end n.wires b q) (left_at q left)) (external_ports (tree_in n b))

-- ---- one event
-- A bridge is given something, settles by moves and is marked; what left its wired ports is put at the end of the
-- queue.
pub record Handles (n : Net) (b : ℕ) (step : Step) (s e : Between) : Type 0 where
  pub moves : List Step
  pub gives : IsGiving step
  pub may : MayTakeAll (tree_in n b) (limits_in n b) (s.dones b).world (step ∷ moves)
  pub moves_alone : Each IsMove moves
  pub settled : IsSettled (tree_in n b) (does n b (step ∷ moves) s.dones).world
  pub done : e.dones ≡ goes_on n b ((step ∷ moves) ++ Mark ∷ []) s.dones
  pub queue : e.queue ≡ s.queue ++ crossed n b (does n b (step ∷ moves) s.dones).left

-- a crossing frame as it arrives: with the next index of its port
abbrev pub coming_at : Crossing → World → Arrival
coming_at x w = record { port = x.port; index = w.next x.port; moment = x.moment; bytes = x.bytes }

-- The first of the queue arrives.
pub record Delivers (n : Net) (s e : Between) : Type 0 where
  pub first : Crossing
  pub rest : List Crossing
  pub is : s.queue ≡ first ∷ rest
  pub handles : Handles n first.bridge (Arrive (coming_at first (s.dones first.bridge).world))
      (record { dones = s.dones; queue = rest }) e

-- After so many deliveries the queue is empty.
abbrev pub Empties : Net → ℕ → Between → Between → Type 0
Empties n zero s e = (s ≡ e) × (e.queue ≡ [])
Empties n (suc k) s e = (u : Between) × Delivers n s u × Empties n k u e

-- ---- all events
-- seconds pass at every bridge, where there are any
abbrev pub pass : Net → ℕ → Dones → Dones
pass n seconds ds b = if seconds == 0 then ds b else followed_by (ds b) (does n b (Tick seconds ∷ []) ds)

abbrev pub MayPass : Net → ℕ → Dones → Type 0
MayPass n seconds ds = (seconds == 0) ≡ false → (b : ℕ) → b < n.count → Can (tree_in n b) (ds b).world (Tick seconds)

-- the step that gives what comes
abbrev pub IsStepFor : Net → ℕ → Coming → Step → Type 0
IsStepFor n b (Ordered moment k) step = (c : Command) × (command_of (basis_in n b) k ≡ Some c) × (step ≡ Order c)
IsStepFor n b (Captured a) step = step ≡ Arrive a

-- Seconds pass, then what comes is given to its bridge, and then the queue is emptied.
pub record PlaysOne (n : Net) (seconds : ℕ) (d : Due) (s e : Dones) : Type 0 where
  pub step : Step
  pub given : Between
  pub end : Between
  pub times : ℕ
  pub may : MayPass n seconds s
  pub is : IsStepFor n d.bridge d.coming step
  pub handles : Handles n d.bridge step (record { dones = pass n seconds s; queue = [] }) given
  pub empties : Empties n times given end
  pub done : e ≡ end.dones

abbrev pub PlaysSince : Net → ℕ → List Due → Dones → Dones → Type 0
PlaysSince n second [] s e = s ≡ e
PlaysSince n second (d ∷ ds) s e = (u : Dones) × PlaysOne n (due_second d - second) d s u
    × PlaysSince n (due_second d) ds u e

abbrev pub Plays : Net → List Due → Dones → Dones → Type 0
Plays n [] s e = s ≡ e
Plays n (d ∷ ds) s e = PlaysSince n (due_second d) (d ∷ ds) s e

-- ---- the opening
-- it settles by moves from its beginning, and is marked
pub record Opens (n : Net) (b : ℕ) (done : Stepped) : Type 0 where
  pub moves : List Step
  pub may : MayTakeAll (tree_in n b) (limits_in n b) (beginning (n.input b).setup) moves
  pub moves_alone : Each IsMove moves
  pub settled : IsSettled (tree_in n b) (run (tree_in n b) (limits_in n b) moves (beginning (n.input b).setup)).world
  pub is : done ≡ run (tree_in n b) (limits_in n b) (moves ++ Mark ∷ []) (beginning (n.input b).setup)

abbrev pub AreOpened : Net → Dones → Type 0
AreOpened n s = (b : ℕ) → b < n.count → Opens n b (s b)
