-- What the machine tells, of the jobs that it decided: each once, in order, by the refusals of commands.
use Rattle.std.specs.Prelude.{◌≡◌, ℕ, ◌+◌, List, [], ◌∷◌, ◌++◌, Option, Some, None}
use Rattle.exb_model.specs.declared.command.Command.TheVariants as command
use Rattle.exb_model.specs.declared.event.Cause.{Cause}
use Rattle.exb_model.specs.declared.event.Event.{Event}
use Rattle.exb_model.specs.Tree.{Shape, IsTree}
use Rattle.exb_model.specs.Setup.{Limits}
use Rattle.exb_model.specs.Configuration.{Bridge}
use Rattle.exb_model.specs.Refusals.{refusal}
use Rattle.exb_control_spec.specs.declared.job.Job.{Job}
use Rattle.exb_control_spec.specs.declared.job.Job.TheVariants as job
use Rattle.exb_control_spec.specs.declared.job.Phase.{Phase}
use Rattle.exb_control_spec.specs.declared.job.Phase.TheVariants.{Preparing, Cleaning}
use Rattle.exb_control_spec.specs.Decisions.{decide, bridge_after}
use Rattle.exb_control_spec.specs.Machine.{Work, State, committed, refused, downs_of}
use Rattle.exb_control_spec.specs.InitialState.{first_jobs}
use Rattle.exb_control_spec.specs.Runs.Systems.{System, Step, Order, moved, stepped, run}
use Rattle.exb_control_spec.specs.Runs.InitialSystem.{first_system}

-- ---- the jobs that are decided
-- why a job is refused, if it is: an opening never is
abbrev pub cause_of : Shape → Limits → Bridge → Job → Option Cause
cause_of t l b (job.Opening n) = None
cause_of t l b (job.AutomaticUp p) = refusal t l b (command.Up p)
cause_of t l b (job.Ordered n c) = refusal t l b c

-- what is told of a job, and the configuration after it
abbrev pub told_by : Job → Option Cause → List Event
told_by j None = committed j
told_by j (Some cause) = refused j cause

abbrev pub kept_by : Job → Bridge → Option Cause → Bridge
kept_by j b None = bridge_after j b
kept_by j b (Some cause) = b

-- the ports that it made go down by a command
abbrev pub downs_by : Job → Option Cause → List ℕ
downs_by j None = downs_of j
downs_by j (Some cause) = []

-- and of jobs one after another, from a configuration on
abbrev pub told : Shape → Limits → Bridge → List Job → List Event
told t l b [] = []
told t l b (j ∷ js) = told_by j (cause_of t l b j) ++ told t l (kept_by j b (cause_of t l b j)) js

abbrev pub kept : Shape → Limits → Bridge → List Job → Bridge
kept t l b [] = b
kept t l b (j ∷ js) = kept t l (kept_by j b (cause_of t l b j)) js

abbrev pub downs_in : Shape → Limits → Bridge → List Job → List ℕ
downs_in t l b [] = []
downs_in t l b (j ∷ js) = downs_by j (cause_of t l b j) ++ downs_in t l (kept_by j b (cause_of t l b j)) js

-- ---- those that aren't decided yet
abbrev pub undecided_in : Phase → Job → List Job
undecided_in Preparing j = j ∷ []
undecided_in Cleaning j = []

abbrev pub undecided_of : Option Work → List Job
undecided_of None = []
undecided_of (Some w) = undecided_in w.phase w.job

abbrev pub pending : State → List Job
pending s = undecided_of s.work ++ s.queue

-- the jobs ever queued, with that of a step
abbrev pub jobs_with : System → List Job → Step → List Job
jobs_with y all (Order c) = all ++ job.Ordered (y.state.given + 1) c ∷ []
jobs_with y all _ = all

-- a change that is prepared isn't refused
abbrev pub CommitsIn : Shape → Limits → Bridge → Phase → Job → Type 0
CommitsIn t l b Preparing j = cause_of t l b j ≡ None
CommitsIn t l b Cleaning j = Unit {0}

abbrev pub WillCommit : Shape → Limits → Bridge → Option Work → Type 0
WillCommit t l b None = Unit {0}
WillCommit t l b (Some w) = CommitsIn t l b w.phase w.job

-- From a configuration on, `all` are the jobs ever queued, `events` and `downs` all that was told and all ports that
-- commands made go down. Then they are those of the jobs that were decided, which come first of all jobs, and the
-- configuration in force is what these left.
pub record Tells (t : Shape) (l : Limits) (b : Bridge) (all : List Job) (events : List Event) (downs : List ℕ)
    (s : State) : Type 0 where
  pub decided : List Job
  pub order : decided ++ pending s ≡ all
  pub lines : events ≡ told t l b decided
  pub ports : downs ≡ downs_in t l b decided
  pub bridge : s.bridge ≡ kept t l b decided
  pub will : WillCommit t l s.bridge s.work

-- Each step tells what the jobs that it decides tell.
abbrev pub StepsTell : Type 0
StepsTell =
    (t : Shape) (l : Limits) (b : Bridge) (all : List Job) (events : List Event) (downs : List ℕ) (y : System)
    (step : Step) → IsTree t →
    Tells t l b all events downs y.state →
    Tells t l b (jobs_with y all step) (events ++ (moved (decide t l) y step).events)
    (downs ++ (moved (decide t l) y step).downs) (stepped (decide t l) y step).state

-- the jobs that a run orders, after those before it; what it tells; and the ports that it makes go down
abbrev pub jobs_over : Shape → Limits → System → List Job → List Step → List Job
jobs_over t l y all [] = all
jobs_over t l y all (step ∷ steps) = jobs_over t l (stepped (decide t l) y step) (jobs_with y all step) steps

abbrev pub events_over : Shape → Limits → System → List Step → List Event
events_over t l y [] = []
events_over t l y (step ∷ steps) = (moved (decide t l) y step).events ++ events_over t l (stepped (decide t l) y step)
    steps

abbrev pub downs_over : Shape → Limits → System → List Step → List ℕ
downs_over t l y [] = []
downs_over t l y (step ∷ steps) = (moved (decide t l) y step).downs ++ downs_over t l (stepped (decide t l) y step)
    steps

-- Over each run from the beginning, the jobs decided so far come first of all jobs ever queued, which are those of
-- the extenders and then the commands as they were given. What was told is what these tell, each once, in order.
abbrev pub DecidedOnce : Type 0
DecidedOnce =
    (t : Shape) (l : Limits) (b : Bridge) (steps : List Step) → IsTree t →
    let y = first_system t l b in
    Tells t l b (jobs_over t l y (first_jobs t) steps) (events_over t l y steps) (downs_over t l y steps)
    (run (decide t l) steps y).state
