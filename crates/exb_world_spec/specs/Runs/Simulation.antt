-- The world's control as the machine of changes beside the tables of all extenders.
use Rattle.std.specs.Prelude.{◌≡◌, ◌⊎◌, ℕ, ◌+◌, ◌==◌, Bool, true, false, if◌then◌else◌, List, [], ◌∷◌, Option, Some, None, filter}
use Rattle.exb_model.specs.declared.command.Command.{Command}
use Rattle.exb_model.specs.declared.event.Event.{Event}
use Rattle.exb_model.specs.declared.event.Event.TheVariants as event
use Rattle.exb_model.specs.Tree.{Shape}
use Rattle.exb_model.specs.Setup.{Limits}
use Rattle.exb_csp.specs.declared.message.Response.{Response}
use Rattle.exb_csp.specs.Sessions.AskingEnd.{AskerState}
use Rattle.exb_extender.specs.Machine.{ExtenderState}
use Rattle.exb_learn.specs.Calls.{Table}
use Rattle.exb_control_spec.specs.declared.job.Job.{Job}
use Rattle.exb_control_spec.specs.declared.job.Job.TheVariants as job
use Rattle.exb_control_spec.specs.Decisions.{decide}
use Rattle.exb_control_spec.specs.Machine.{Work}
use Rattle.exb_control_spec.specs.Runs.Systems.{System, Step, Order, moved, stepped}
use Rattle.exb_control_spec.specs.Runs.MachineInvariant.{Stands, MayStep}
use Rattle.exb_control_spec.specs.Runs.PlannedChanges.{planning}
use Rattle.exb_world_spec.specs.Worlds.{World}
use Rattle.exb_world_spec.specs.Effects.{Effect}
use Rattle.exb_world_spec.specs.BridgeLearning.{forgotten_all}
use Rattle.exb_world_spec.specs.Runs.CascadeChannels.{fixing}
use Rattle.exb_world_spec.specs.Runs.Sessions.{WorldFits}

-- the answer of the extender of the outstanding request, if it has executed that
abbrev pub answer_at : AskerState → ExtenderState → Option Response
answer_at a x = if x.session.last == a.serial then x.session.answer else None

abbrev pub answer_in : Option Work → (ℕ → AskerState) → (ℕ → ExtenderState) → Option Response
answer_in None askers far = None
answer_in (Some w) askers far = answer_at (askers w.first.extender) (far w.first.extender)

abbrev pub system_of : World → System
system_of w = record {
  state = w.control;
  tables = λ n. (w.far n).tables;
  answer = answer_in w.control.work w.control.askers w.far;
}

-- ---- what is told
-- the events of jobs, among others
abbrev pub is_of_job : Event → Bool
is_of_job (event.Commit n) = true
is_of_job (event.Refuse n x) = true
is_of_job (event.Up p) = true
is_of_job (event.NoUp p x) = true
is_of_job _ = false

abbrev pub jobs_in : List Event → List Event
jobs_in es = filter is_of_job es

-- the command that a step of the machine gives
abbrev pub commands_in : Step → List Command
commands_in (Order c) = c ∷ []
commands_in _ = []

-- how many were given after these, and the jobs that they are, by their numbers
abbrev pub given_after : ℕ → List Command → ℕ
given_after n [] = n
given_after n (c ∷ cs) = given_after (n + 1) cs

abbrev pub jobs_after : ℕ → List Command → List Job
jobs_after n [] = []
jobs_after n (c ∷ cs) = job.Ordered (n + 1) c ∷ jobs_after (n + 1) cs

-- ---- steps
-- Nothing has happened: no command was given, and nothing of a job is told.
pub record IsNothing (cs : List Command) (y z : System) (es : List Event) : Type 0 where
  pub is : z ≡ y
  pub orders : cs ≡ []
  pub tells : jobs_in es ≡ []

-- A step of the machine that may happen. It gives just these commands; of jobs just its events are told, in order; and
-- of what was learned, just the ports that it makes go down are forgotten.
pub record IsStep (t : Shape) (l : Limits) (cs : List Command) (y z : System) (es : List Event)
    (u v : Table) : Type 0 where
  pub step : Step
  pub may : MayStep (planning t) y step
  pub is : z ≡ stepped (decide t l) y step
  pub orders : cs ≡ commands_in step
  pub tells : jobs_in es ≡ (moved (decide t l) y step).events
  pub forgets : v ≡ forgotten_all (moved (decide t l) y step).downs u

-- For the machine, nothing or one step has happened.
abbrev pub Follows : Shape → Limits → List Command → System → System → List Event → Table → Table → Type 0
Follows t l cs y z es u v = IsNothing cs y z es ⊎ IsStep t l cs y z es u v

-- The sessions fit the words, and the machine and the tables stand.
pub record IsSound (t : Shape) (l : Limits) (w : World) : Type 0 where
  pub fits : WorldFits t w
  pub stands : Stands (fixing t l) (system_of w)

-- And so they do after a step, in which these commands are given and these events told, that is nothing or one step for
-- the machine.
pub record StaysSound (t : Shape) (l : Limits) (cs : List Command) (w v : World) (es : List Event) : Type 0 where
  pub fits : WorldFits t v
  pub follows : Follows t l cs (system_of w) (system_of v) es w.table v.table

-- after an effect, without a command
abbrev pub Stays : Shape → Limits → World → Effect → Type 0
Stays t l w e = StaysSound t l [] w e.world e.events
