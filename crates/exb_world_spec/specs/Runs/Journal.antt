-- What the world's journal tells: of each step by its kind, and of jobs over runs.
use Rattle.std.specs.Prelude.{◌≡◌, ◌⊎◌, ℕ, nat_lt, ◌||◌, Bool, true, false, if◌then◌else◌, List, [], ◌∷◌, ◌++◌, Some, None}
use Rattle.exb_model.specs.declared.command.Command.{Command}
use Rattle.exb_model.specs.declared.event.Event.{Event}
use Rattle.exb_model.specs.declared.event.Event.TheVariants as event
use Rattle.exb_model.specs.Tree.{Shape, device, on, is_external, port_number}
use Rattle.exb_model.specs.declared.setup.Setup.{Setup}
use Rattle.exb_model.specs.Setup.{Limits, IsValid, shape_of, limits_of, start_of}
use Rattle.exb_model.specs.Configuration.{Bridge}
use Rattle.exb_model.specs.ETags.{read_etag, stripped}
use Rattle.exb_model.specs.declared.arrival.Arrival.{Arrival}
use Rattle.exb_model.specs.EagerHistory.{arrival_event}
use Rattle.exb_extender.specs.Forwarding.{is_ignored}
use Rattle.exb_link.specs.declared.link_frame.Stamp.{Stamp}
use Rattle.exb_link.specs.declared.link_frame.LinkFrame.{LinkFrame}
use Rattle.exb_control_spec.specs.declared.job.Job.{Job}
use Rattle.exb_control_spec.specs.InitialState.{first_jobs}
use Rattle.exb_control_spec.specs.Runs.PlannedChanges.{IsSetting}
use Rattle.exb_control_spec.specs.Runs.InitialMachine.{MayBegin}
use Rattle.exb_control_spec.specs.Runs.Journal.{told, kept, Tells}
use Rattle.exb_world_spec.specs.Worlds.{World, Way, Up, Down, Step, Arrive, Carry, Control, Lose, Beat, Tick, Order, Mark, first_world}
use Rattle.exb_world_spec.specs.BridgeLearning.{forgotten_all}
use Rattle.exb_world_spec.specs.DataFrames.{holder_by, arrival_by}
use Rattle.exb_world_spec.specs.Steps.{stepped, words_on, first_data}
use Rattle.exb_world_spec.specs.Settling.{run}
use Rattle.exb_world_spec.specs.Runs.Simulation.{jobs_in, jobs_after, IsSound}
use Rattle.exb_world_spec.specs.Runs.SessionLaws.{HasFewPorts, MayMake, MayMakeAll, ordered_by, ordered_in}

-- ---- the events of a step
-- the word goes to the bridge
abbrev pub is_to_bridge : Shape → ℕ → Way → Bool
is_to_bridge t n Up = nat_lt (on t n) 64
is_to_bridge t n Down = false

-- the extender ignores a frame that comes to a cascade port, or to a port without a channel, or isn't of a kind to send
abbrev pub is_ignored_at : World → Arrival → Bool
is_ignored_at w a =
    (w.far (device a.port)).tables.cascade (port_number a.port) || is_ignored
    ((w.far (device a.port)).tables.own (port_number a.port)) a.bytes

-- The word is one of a record: it has a stamp, whose port is an external one and holds its channel.
pub record IsOfRecord (t : Shape) (w : World) (n : ℕ) (x : LinkFrame) (s : Stamp) : Type 0 where
  pub stamped : x.stamp ≡ Some s
  pub held : holder_by w (on t n) (read_etag x.bytes) ≡ Some s.port
  pub external : is_external t s.port ≡ true

-- At a port of the bridge just Relay or Ignored of the record is told; at one of an extender, Ignored exactly where the
-- extender ignores it, and else nothing.
pub record ArrivalTells (a : Arrival) (w : World) (es : List Event) : Type 0 where
  pub local : nat_lt a.port 64 ≡ true → es ≡ arrival_event w.control.bridge a ∷ []
  pub extended : nat_lt a.port 64 ≡ false → es ≡ (if is_ignored_at w a then event.Ignored a.port a.index ∷ [] else [])

-- Of a data word that the bridge takes, just Relay or Ignored of its record is told, if it is one of a record; in any
-- case no more than one such event, of its stamp. Where another takes it, nothing is told.
pub record IsToldOnce (w : World) (x : LinkFrame) (es : List Event) : Type 0 where
  pub port : ℕ
  pub stamp : Stamp
  pub stamped : x.stamp ≡ Some stamp
  pub is : es ≡ arrival_event w.control.bridge (arrival_by port stamp (stripped x.bytes)) ∷ []

pub record CarryTells (t : Shape) (n : ℕ) (way : Way) (w : World) (es : List Event) : Type 0 where
  pub bridge : is_to_bridge t n way ≡ true → (x : LinkFrame) → first_data (words_on n way w) ≡ Some x → (s : Stamp)
      → IsOfRecord t w n x s →
      es ≡ arrival_event w.control.bridge (arrival_by s.port s (stripped x.bytes)) ∷ []
  pub few : is_to_bridge t n way ≡ true → (x : LinkFrame) → first_data (words_on n way w) ≡ Some x
      → (es ≡ []) ⊎ IsToldOnce w x es
  pub other : is_to_bridge t n way ≡ false → es ≡ []

-- Of a control word that the bridge takes just events of jobs are told. Where another takes it, nothing is told.
pub record ControlTells (t : Shape) (n : ℕ) (way : Way) (es : List Event) : Type 0 where
  pub bridge : is_to_bridge t n way ≡ true → jobs_in es ≡ es
  pub other : is_to_bridge t n way ≡ false → es ≡ []

-- the events of a step, by its kind
abbrev pub TellsByKind : Shape → Step → World → List Event → Type 0
TellsByKind t (Arrive a) w es = ArrivalTells a w es
TellsByKind t (Carry n way) w es = CarryTells t n way w es
TellsByKind t (Control n way k keep) w es = ControlTells t n way es
TellsByKind t (Lose n way k) w es = es ≡ []
TellsByKind t Beat w es = es ≡ []
TellsByKind t (Tick seconds) w es = es ≡ event.Tick seconds ∷ []
TellsByKind t (Order c) w es = jobs_in es ≡ es
TellsByKind t Mark w es = es ≡ event.Settled ∷ []

abbrev pub StepsTellByKind : Type 0
StepsTellByKind = (t : Shape) (l : Limits) (w : World) (step : Step) → TellsByKind t step w (stepped t l step w).events

-- ---- jobs
-- Where all jobs and events so far and the ports that went down so far are those of which the control's state tells, so
-- it is after more commands and events. These more ports went down.
pub record JobsTold (t : Shape) (l : Limits) (b : Bridge) (all : List Job) (events : List Event) (downs : List ℕ)
    (cs : List Command) (es : List Event) (w v : World) : Type 0 where
  pub more : List ℕ
  pub tells : Tells t l b (all ++ jobs_after w.control.given cs) (events ++ jobs_in es) (downs ++ more) v.control

-- In a step just those ports are forgotten of what was learned, where there are any.
pub record JobsToldByStep (t : Shape) (l : Limits) (b : Bridge) (all : List Job) (events : List Event) (downs : List ℕ)
    (cs : List Command) (es : List Event) (w v : World) : Type 0 where
  pub told : JobsTold t l b all events downs cs es w v
  pub forgets : (told.more ≡ []) ⊎ (v.table ≡ forgotten_all told.more w.table)

abbrev pub StepsTellJobs : Type 0
StepsTellJobs =
    (t : Shape) (l : Limits) → IsSetting t l → (b : Bridge) (all : List Job) (events : List Event) (downs : List ℕ)
    (w : World) (step : Step) → IsSound t l w → MayMake t l w step →
    Tells t l b all events downs w.control → JobsToldByStep t l b all events downs (ordered_by step)
    (stepped t l step w).events w (stepped t l step w).world

abbrev pub RunsTellJobs : Type 0
RunsTellJobs =
    (t : Shape) (l : Limits) → IsSetting t l → (b : Bridge) (all : List Job) (events : List Event) (downs : List ℕ)
    (w : World) (steps : List Step) → IsSound t l w → MayMakeAll t l w steps →
    Tells t l b all events downs w.control → JobsTold t l b all events downs (ordered_in steps)
    (run t l steps w).events w (run t l steps w).world

-- Over each run from the beginning, the jobs decided so far come first of all jobs ever queued, which are those of the
-- extenders and then the commands of the run as they were given, numbered from 1. The events of jobs in the journal are
-- what the decided jobs tell, each once, in order; and the configuration in force is what these left.
pub record JournalIsOf (t : Shape) (l : Limits) (b : Bridge) (steps : List Step) (es : List Event)
    (v : World) : Type 0 where
  pub downs : List ℕ
  pub tells : Tells t l b (first_jobs t ++ jobs_after 0 (ordered_in steps)) (jobs_in es) downs v.control

abbrev pub JournalDecidesOnce : Type 0
JournalDecidesOnce =
    (t : Shape) (l : Limits) (b : Bridge) (ageing : ℕ) (steps : List Step) → IsSetting t l → HasFewPorts t
    → MayBegin t l b → MayMakeAll t l (first_world t l b ageing) steps →
    JournalIsOf t l b steps (run t l steps (first_world t l b ageing)).events
    (run t l steps (first_world t l b ageing)).world

-- Where a run ends with an empty queue and no change at work, as in a settled world, all jobs are decided: each command
-- of the run stands in the journal once, and in order.
abbrev pub IdleTellsAll : Type 0
IdleTellsAll =
    (t : Shape) (l : Limits) (b : Bridge) (steps : List Step) (es : List Event) (v : World)
    → JournalIsOf t l b steps es v → v.control.queue ≡ [] → v.control.work ≡ None →
    (jobs_in es ≡ told t l b (first_jobs t ++ jobs_after 0 (ordered_in steps)))
    × (v.control.bridge ≡ kept t l b (first_jobs t ++ jobs_after 0 (ordered_in steps)))

-- So it is over each run of the world of a valid setup.
abbrev pub SetupsDecideOnce : Type 0
SetupsDecideOnce =
    (s : Setup) (steps : List Step) → IsValid s → let w = first_world (shape_of s) (limits_of s)
    (start_of s) s.ageing in
    MayMakeAll (shape_of s) (limits_of s) w steps → JournalIsOf (shape_of s) (limits_of s) (start_of s) steps
    (run (shape_of s) (limits_of s) steps w).events (run (shape_of s) (limits_of s) steps w).world
