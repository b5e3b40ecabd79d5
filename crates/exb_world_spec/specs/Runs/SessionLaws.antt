-- The laws of the world's sessions.
use Rattle.std.specs.Prelude.{false, ◌<◌, ◌++◌, Some, filter, length, ◌↔◌, true, ◌⊎◌, ◌≡◌, ℕ, ◌≤◌, List, [], ◌∷◌, slice_index}
use Rattle.exb_model.specs.Tree.{Shape, HangsOn, IsTree, on, above, is_extender}
use Rattle.exb_model.specs.declared.command.Command.{Command}
use Rattle.exb_model.specs.declared.event.Event.{Event}
use Rattle.exb_model.specs.declared.setup.Verdict.{Verdict}
use Rattle.exb_model.specs.declared.setup.Setup.{Setup}
use Rattle.exb_model.specs.Setup.{Limits, IsValid, shape_of, limits_of, start_of}
use Rattle.exb_model.specs.Configuration.{Bridge}
use Rattle.exb_model.specs.Frames.{IsBytes}
use Rattle.exb_extender.specs.declared.sends.Side.TheVariants as side
use Rattle.exb_csp.specs.AllTables.{port_of}
use Rattle.exb_extender.specs.Forwarding.{Sent, is_bare_control}
use Rattle.exb_extender.specs.Machine.{Arrives, react}
use Rattle.exb_control_spec.specs.Runs.LaidTables.{laid}
use Rattle.exb_link.specs.declared.link_frame.LinkFrame.{LinkFrame}
use Rattle.exb_link.specs.LinkFrames.{is_control, is_data, leading, without_data, without_control}
use Rattle.exb_control_spec.specs.Decisions.{decide}
use Rattle.exb_control_spec.specs.Runs.Systems.{Step as MachineStep, run as machine_run}
use Rattle.exb_control_spec.specs.Runs.MachineInvariant.{opened_by}
use Rattle.exb_control_spec.specs.Runs.MachineInvariant.{MayRun as MachineMayRun}
use Rattle.exb_control_spec.specs.Runs.Journal.{events_over}
use Rattle.exb_control_spec.specs.Runs.PlannedChanges.{IsSetting, planning, IsExact}
use Rattle.exb_control_spec.specs.Runs.InitialMachine.{MayBegin}
use Rattle.exb_world_spec.specs.Worlds.{World, Way, Step, Arrive, Carry, Control, Lose, Beat, Order, first_world}
use Rattle.exb_world_spec.specs.Steps.{Stepped, stepped, words_on, takes, first_data, control_at}
use Rattle.exb_world_spec.specs.AllowedSteps.{Can, IsSettled}
use Rattle.exb_world_spec.specs.Settling.{run, round, settled_within, is_settled}
use Rattle.exb_world_spec.specs.Runs.Sessions.{Each, AreLow, IsTagged}
use Rattle.exb_world_spec.specs.Runs.Simulation.{jobs_in, commands_in, system_of, IsSound, StaysSound}

-- ---- steps that may be made
-- a frame that arrives, and each word on a link, is a list of bytes
abbrev pub HasBytes : Step → Type 0
HasBytes (Arrive a) = IsBytes a.bytes
HasBytes _ = Unit {0}

pub record AreBytes (w : World) : Type 0 where
  pub downs : (n : ℕ) → Each (λ (x : LinkFrame). IsBytes x.bytes) (w.down n)
  pub ups : (n : ℕ) → Each (λ (x : LinkFrame). IsBytes x.bytes) (w.up n)

-- A step that may be made. That bytes are bytes and that serials fit 64 bits are facts of the code's types.
pub record MayMake (t : Shape) (l : Limits) (w : World) (step : Step) : Type 0 where
  pub can : Can t w step
  pub has : HasBytes step
  pub bytes : AreBytes w
  pub low : AreLow w.control.askers
  pub after : AreLow (stepped t l step w).world.control.askers

abbrev pub MayMakeAll : Shape → Limits → World → List Step → Type 0
MayMakeAll t l w [] = Unit {0}
MayMakeAll t l w (step ∷ steps) = MayMake t l w step × MayMakeAll t l (stepped t l step w).world steps

-- ---- the beginning
-- no extender has more than 64 ports
abbrev pub HasFewPorts : Shape → Type 0
HasFewPorts t = (n : ℕ) → slice_index t.ports n ≤ 64

-- The world is sound as it begins.
abbrev pub BeginsSound : Type 0
BeginsSound = (t : Shape) (l : Limits) (b : Bridge) (ageing : ℕ) → IsSetting t l → HasFewPorts t → MayBegin t l b
    → IsSound t l (first_world t l b ageing)

-- ---- a step
-- the command that a step gives
abbrev pub ordered_by : Step → List Command
ordered_by (Order c) = c ∷ []
ordered_by _ = []

-- and several steps, in order
abbrev pub ordered_in : List Step → List Command
ordered_in [] = []
ordered_in (step ∷ steps) = ordered_by step ++ ordered_in steps

-- Each step keeps what holds of the sessions, over the bytes of all words; and for the machine of changes it is nothing
-- or one step, of the same command. Of jobs it tells just what that step tells.
abbrev pub StepsStaySound : Type 0
StepsStaySound = (t : Shape) (l : Limits) → IsSetting t l → (w : World) (step : Step) → IsSound t l w
    → MayMake t l w step → StaysSound t l (ordered_by step) w (stepped t l step w).world (stepped t l step w).events

-- ---- control frames on their way
-- Of a control frame f for extender n with the channel of n's port, whose content is c, extender m sends this: at that
-- port the content, without the E-TAG; at another one, which lies on the way to n and on which an extender hangs, the
-- frame as it is.
pub record IsHop (t : Shape) (m n : ℕ) (f c : List ℕ) (x : Sent) : Type 0 where
  pub port : ℕ
  pub first : 0 < port
  pub last : port ≤ 64
  pub side : x.side ≡ side.Port port
  pub way : above t (port_of m port) (on t n) ≡ true
  pub hop : ((port_of m port ≡ on t n) × (x.bytes ≡ c)) ⊎ ((x.bytes ≡ f) × ((d : ℕ) × HangsOn t d (port_of m port)))

-- So a control frame goes on towards its extender, at one port at most and nowhere else, and the extender that sends it
-- on stays as it is.
pub record IsSentOn (t : Shape) (w : World) (m n : ℕ) (f c : List ℕ) : Type 0 where
  pub sent : Each (IsHop t m n f c) (react (Arrives side.Up f) (w.far m)).1
  pub few : length (react (Arrives side.Up f) (w.far m)).1 ≤ 1
  pub stays : (react (Arrives side.Up f) (w.far m)).0 ≡ w.far m

abbrev pub ControlGoesOn : Type 0
ControlGoesOn =
    (t : Shape) (l : Limits) → IsSetting t l → (w : World) → IsSound t l w → (m n : ℕ) (f c : List ℕ)
    → is_extender t m ≡ true → is_extender t n ≡ true → is_bare_control c ≡ true →
    IsTagged t w.control.held m f n c → IsSentOn t w m n f c

-- ---- a settled world
-- Just what is held is laid in the tables of all extenders, just what the configuration needs is held, and no answer is
-- on its way.
pub record IsAtRest (t : Shape) (w : World) : Type 0 where
  pub laid : (λ (n : ℕ). (w.far n).tables) ≡ laid t (opened_by (is_extender t) []) w.control.held
  pub exact : IsExact t (opened_by (is_extender t) []) w.control.bridge w.control.held

abbrev pub SettledIsAtRest : Type 0
SettledIsAtRest = (t : Shape) (l : Limits) (w : World) → IsSound t l w → IsSettled t w → IsAtRest t w

-- ---- a run
-- the commands that a run of the machine gives
abbrev pub commands_over : List MachineStep → List Command
commands_over [] = []
commands_over (step ∷ steps) = commands_in step ++ commands_over steps

-- A run of the world is a run of the machine, in which each step may happen. It gives these commands, and its events
-- are those of jobs among these.
pub record IsMachineRun (t : Shape) (l : Limits) (cs : List Command) (w v : World) (es : List Event) : Type 0 where
  pub steps : List MachineStep
  pub may : MachineMayRun (planning t) (decide t l) (system_of w) steps
  pub is : system_of v ≡ machine_run (decide t l) steps (system_of w)
  pub orders : cs ≡ commands_over steps
  pub tells : jobs_in es ≡ events_over t l (system_of w) steps

pub record RunsSound (t : Shape) (l : Limits) (cs : List Command) (w v : World) (es : List Event) : Type 0 where
  pub sound : IsSound t l v
  pub machine : IsMachineRun t l cs w v es

-- So all laws over runs of the machine hold of each run of the world.
abbrev pub RunsStaySound : Type 0
RunsStaySound = (t : Shape) (l : Limits) → IsSetting t l → (w : World) (steps : List Step) → IsSound t l w
    → MayMakeAll t l w steps → RunsSound t l (ordered_in steps) w (run t l steps w).world (run t l steps w).events

-- ---- rounds
-- words are carried, delivered or lost, or a beat passes
abbrev pub IsMove : Step → Type 0
IsMove (Carry n way) = Unit {0}
IsMove (Control n way k keep) = Unit {0}
IsMove (Lose n way k) = Unit {0}
IsMove Beat = Unit {0}
IsMove _ = ⊥

-- what was done is done by such steps alone
pub record IsRun (t : Shape) (l : Limits) (w : World) (done : Stepped) : Type 0 where
  pub steps : List Step
  pub is : done ≡ run t l steps w
  pub moves : Each IsMove steps

-- A round is made of such steps, and so is settling.
abbrev pub RoundsAreSteps : Type 0
RoundsAreSteps =
    (t : Shape) (l : Limits) (w : World) (verdicts : List Verdict) →
    IsRun t l w (round t l w verdicts).done × ((n : ℕ) → IsRun t l w (settled_within t l n w verdicts).done)

-- ---- whether a world is settled
-- The test passes exactly where the world is settled.
abbrev pub SettledExactly : Type 0
SettledExactly = (t : Shape) (w : World) → IsTree t → (is_settled t w ≡ true) ↔ IsSettled t w

-- ---- going through a direction
-- Whoever takes a word puts none on the direction from which it came.
abbrev pub TakingLeavesItsDirection : Type 0
TakingLeavesItsDirection =
    (t : Shape) (l : Limits) (w : World) → IsTree t → IsSound t l w → (n : ℕ) (way : Way) (x : LinkFrame)
    → is_extender t n ≡ true →
    words_on n way (takes t l n way x w).world ≡ words_on n way w

-- Where control words stand before a word, that word is the next one: a control word is free at their number, and a
-- data word is the first. Without it the others stay in order.
pub record IsNextControl (before : List LinkFrame) (x : LinkFrame) (rest : List LinkFrame) : Type 0 where
  pub free : length before < leading (before ++ x ∷ rest)
  pub there : control_at (before ++ x ∷ rest) (length before) ≡ Some x
  pub stays : without_control (before ++ x ∷ rest) (length before) ≡ before ++ rest

pub record IsNextData (before : List LinkFrame) (x : LinkFrame) (rest : List LinkFrame) : Type 0 where
  pub some : 0 < length (filter is_data (before ++ x ∷ rest))
  pub there : first_data (before ++ x ∷ rest) ≡ Some x
  pub stays : without_data (before ++ x ∷ rest) ≡ before ++ rest

abbrev pub DirectionsGoInOrder : Type 0
DirectionsGoInOrder =
    (before : List LinkFrame) (x : LinkFrame) (rest : List LinkFrame)
    → Each (λ (w : LinkFrame). is_control w ≡ true) before →
    (is_control x ≡ true → IsNextControl before x rest) × (is_control x ≡ false → IsNextData before x rest)

-- ---- valid setups
-- The world of each valid setup is sound as it begins.
abbrev pub SetupsBeginSound : Type 0
SetupsBeginSound =
    (s : Setup) → IsValid s → IsSetting (shape_of s) (limits_of s)
    × IsSound (shape_of s) (limits_of s) (first_world (shape_of s) (limits_of s) (start_of s) s.ageing)
