-- What the parts of the control have to do with the machine of changes.
use Rattle.std.specs.Prelude.{ℕ, ◌+◌, ◌==◌, ◌||◌, Bool, true, false, not, if◌then◌else◌, List, [], ◌∷◌, ◌++◌, Option, Some, None, ◌&&◌, count_by, length, drop}
use Rattle.std.specs.List.{range_with_len}
use Rattle.exb_model.specs.declared.event.Event.{Event}
use Rattle.exb_model.specs.Tree.{Shape, is_extender}
use Rattle.exb_csp.specs.declared.message.Message.{Message}
use Rattle.exb_csp.specs.Sessions.AskingEnd.{AskerState, asked, beaten, message_again}
use Rattle.exb_csp.specs.declared.ask_at.AskAt.{AskAt}
use Rattle.exb_control_spec.specs.declared.plan.change.Change.{Change}
use Rattle.exb_control_spec.specs.declared.extender_message.Asked.{Asked}
use Rattle.exb_control_spec.specs.declared.job.Job.{Job}
use Rattle.exb_control_spec.specs.declared.job.Job.TheVariants as job
use Rattle.exb_control_spec.specs.declared.job.Phase.{Phase}
use Rattle.exb_control_spec.specs.declared.job.Phase.TheVariants.{Preparing, Cleaning}
use Rattle.exb_control.specs.declared.stage.Stage.{Stage}
use Rattle.exb_control.specs.declared.stage.Stage.TheVariants.{AtRest, Prepared, InForce}
use Rattle.exb_control.specs.ActiveConfigs.{bridge_in, held_in}
use Rattle.exb_control_spec.specs.Machine.{State, Moved, still, ends, works, commits, messages_due}
use Rattle.exb_control.specs.declared.change_execution.ChangeExecutor.{ChangeExecutor}
use Rattle.exb_control.specs.Queues.{first_in}
use Rattle.exb_control.specs.Controls.{is_heard, asker_at, work_at}

-- ---- states
abbrev pub heard_of : List Bool → ℕ → Bool
heard_of heard n = is_heard heard n

abbrev pub askers_of : List AskerState → ℕ → AskerState
askers_of askers n = asker_at askers n

-- what carrying out changes doesn't touch: the jobs that wait, the extenders that were heard, the commands given
pub record Front : Type 0 where
  pub queue : List Job
  pub heard : List Bool
  pub given : ℕ

-- the state but for the change at work
abbrev pub rest_of : Front → ChangeExecutor → State
rest_of f c =
    record {
      queue = f.queue;
      work = None;
      bridge = bridge_in c.active;
      held = held_in c.active;
      heard = heard_of f.heard;
      askers = askers_of c.sessions;
      given = f.given;
    }

abbrev pub state_in : Front → ChangeExecutor → State
state_in f c = record (rest_of f c) { work = work_at c.active.stage c.place }

abbrev pub with_queue : List Job → Front → Front
with_queue queue f = record f { queue = queue }

-- ---- where steps lead
-- a state, and what was told on the way to it
pub record Reached : Type 0 where
  pub state : State
  pub events : List Event
  pub asks : List Asked
  pub downs : List ℕ

abbrev pub reached : State → List Event → List Asked → List ℕ → Reached
reached s events asks downs = record { state = s; events = events; asks = asks; downs = downs }

-- by a step, after what was told before
abbrev pub reached_by : Moved → List Event → List Asked → List ℕ → Reached
reached_by m events asks downs =
    reached m.state (events ++ m.events) (asks ++ m.asks) (downs ++ m.downs)

-- ---- requests
-- the requests of the phase
abbrev pub asks_in : Stage → List AskAt
asks_in AtRest = []
asks_in (Prepared j x) = x.prepare
asks_in (InForce j x) = x.cleanup

-- those after it
abbrev pub asks_after : Stage → List AskAt
asks_after AtRest = []
asks_after (Prepared j x) = x.cleanup
asks_after (InForce j x) = []

-- how many there are from a place of the phase on
abbrev pub left_at : Stage → ℕ → ℕ
left_at stage place = length (drop place (asks_in stage)) + length (asks_after stage)

-- the request at a place of the phase
abbrev pub ask_at : Stage → ℕ → Option AskAt
ask_at stage place = first_in (drop place (asks_in stage))

-- ---- sessions
-- the session with extender n is another one
abbrev pub put : ℕ → AskerState → (ℕ → AskerState) → ℕ → AskerState
put n a askers m = if m == n then a else askers m

-- once a request is asked, and the message that asks it
abbrev pub after_ask : Option AskAt → (ℕ → AskerState) → ℕ → AskerState
after_ask None askers = askers
after_ask (Some a) askers = put a.extender (asked (askers a.extender) a.request).0 askers

abbrev pub messages_for : Option AskAt → (ℕ → AskerState) → List Asked
messages_for None askers = []
messages_for (Some a) askers = record { extender = a.extender; message = (asked (askers a.extender) a.request).1 } ∷ []

-- after a beat of waiting for the answer to a request, and the message that goes out again
abbrev pub after_beat : Option AskAt → (ℕ → AskerState) → ℕ → AskerState
after_beat None askers = askers
after_beat (Some a) askers = put a.extender (beaten (askers a.extender)).0 askers

abbrev pub messages_at_beat : Option AskAt → (ℕ → AskerState) → List Asked
messages_at_beat None askers = []
messages_at_beat (Some a) askers = messages_due a.extender (beaten (askers a.extender)).1
    (message_again (askers a.extender))

-- the message that a beat gives
abbrev pub due : Bool → Option Message → Option Message
due true m = m
due false m = None

-- ---- the change at work
abbrev pub is_at_rest : Stage → Bool
is_at_rest AtRest = true
is_at_rest (Prepared j x) = false
is_at_rest (InForce j x) = false

abbrev pub next_of : Job → Change → Phase → (State → Moved) → List AskAt → State → Moved
next_of j x phase ends [] s = ends s
next_of j x phase ends (first ∷ rest) s = works j x phase first rest s

-- the outstanding request of the phase is answered, and these follow
abbrev pub advances : Stage → List AskAt → State → Moved
advances AtRest rest s = still s
advances (Prepared j x) rest s = next_of j x Preparing (commits j x) rest s
advances (InForce j x) rest s = next_of j x Cleaning (λ t. still (ends x t)) rest s

-- the prepared change takes effect
abbrev pub commits_at : Stage → State → Moved
commits_at AtRest s = still s
commits_at (Prepared j x) s = commits j x s
commits_at (InForce j x) s = still s

-- ---- who was heard
-- extender n was heard too
abbrev pub noted : ℕ → (ℕ → Bool) → ℕ → Bool
noted n heard m = m == n || heard m

abbrev pub waits_for : List Bool → Job → Bool
waits_for heard (job.Opening n) = not (is_heard heard n)
waits_for heard (job.AutomaticUp p) = false
waits_for heard (job.Ordered n c) = false

abbrev pub unheard_at : Shape → List Bool → ℕ → Bool
unheard_at t heard n = is_extender t n && not (is_heard heard n)

-- how many of the first n extenders weren't heard yet
unfoldable pub unheard_to : Shape → List Bool → ℕ → ℕ
unheard_to t heard n = count_by (unheard_at t heard) (range_with_len 1 n)

-- ---- jobs
-- the automatic up of a port, if it goes up
abbrev pub up_if : Bool → ℕ → List Job
up_if true p = job.AutomaticUp p ∷ []
up_if false p = []
