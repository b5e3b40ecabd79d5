-- The machine of changes: a queue of jobs, of which the first is carried out alone.
use Rattle.std.specs.Prelude.{ℕ, ◌+◌, ◌==◌, ◌||◌, Bool, true, false, not, if◌then◌else◌, List, [], ◌∷◌, ◌++◌, Option, Some, None}
use Rattle.exb_model.specs.declared.command.Command.{Command}
use Rattle.exb_model.specs.declared.command.Command.TheVariants as command
use Rattle.exb_model.specs.declared.event.Cause.{Cause}
use Rattle.exb_model.specs.declared.event.Event.{Event}
use Rattle.exb_model.specs.declared.event.Event.TheVariants as event
use Rattle.exb_model.specs.Configuration.{Bridge}
use Rattle.exb_csp.specs.declared.message.Message.{Message}
use Rattle.exb_csp.specs.declared.session.asker.Taken.{Taken}
use Rattle.exb_csp.specs.declared.session.asker.Taken.TheVariants as taken
use Rattle.exb_csp.specs.Sessions.AskingEnd.{AskerState, asked, beaten, message_again, took}
use Rattle.exb_csp.specs.declared.ask_at.AskAt.{AskAt}
use Rattle.exb_control_spec.specs.declared.plan.change.Change.{Change}
use Rattle.exb_control_spec.specs.Plans.HeldNumbers.{Held}
use Rattle.exb_control_spec.specs.declared.extender_message.Asked.{Asked}
use Rattle.exb_control_spec.specs.declared.job.Job.{Job}
use Rattle.exb_control_spec.specs.declared.job.Job.TheVariants as job
use Rattle.exb_control_spec.specs.declared.job.Phase.{Phase}
use Rattle.exb_control_spec.specs.declared.job.Phase.TheVariants.{Preparing, Cleaning}
use Rattle.exb_control_spec.specs.Decisions.{Outcome, Refused, Ready, Decide, bridge_after, release}

-- the change at work: the request that is outstanding, and those of its phase that follow
pub record Work : Type 0 where
  pub job : Job
  pub change : Change
  pub phase : Phase
  pub first : AskAt
  pub rest : List AskAt

-- The jobs that wait, the change at work, the configuration in force, what is held, which extenders were
-- heard, the bridge's end of the session with each extender, and how many commands were given.
pub record State : Type 0 where
  pub queue : List Job
  pub work : Option Work
  pub bridge : Bridge
  pub held : Held
  pub heard : ℕ → Bool
  pub askers : ℕ → AskerState
  pub given : ℕ

-- what a step gives: the new state, what happened, what goes out, and the ports that commands made go down
pub record Moved : Type 0 where
  pub state : State
  pub events : List Event
  pub asks : List Asked
  pub downs : List ℕ

abbrev pub still : State → Moved
still s = record { state = s; events = []; asks = []; downs = [] }

-- what happened before comes first
abbrev pub followed_by : Moved → Moved → Moved
followed_by m n = record {
  state = n.state;
  events = m.events ++ n.events;
  asks = m.asks ++ n.asks;
  downs = m.downs ++ n.downs;
}

-- ---- events
abbrev pub committed : Job → List Event
committed (job.Opening n) = []
committed (job.AutomaticUp p) = event.Up p ∷ []
committed (job.Ordered n c) = event.Commit n ∷ []

abbrev pub refused : Job → Cause → List Event
refused (job.Opening n) x = []
refused (job.AutomaticUp p) x = event.NoUp p x ∷ []
refused (job.Ordered n c) x = event.Refuse n x ∷ []

abbrev pub commanded_down : Command → List ℕ
commanded_down (command.Down p) = p ∷ []
commanded_down _ = []

abbrev pub downs_of : Job → List ℕ
downs_of (job.Opening n) = []
downs_of (job.AutomaticUp p) = []
downs_of (job.Ordered n c) = commanded_down c

-- ---- requests
abbrev pub with_asker : ℕ → AskerState → State → State
with_asker n a s = record s { askers = λ m. if m == n then a else s.askers m }

-- the first request of the work goes out, under the next serial of its extender
abbrev pub asking : Work → State → Moved
asking w s =
    record {
      state = record (with_asker w.first.extender (asked (s.askers w.first.extender) w.first.request).0 s)
          { work = Some w };
      events = [];
      asks = record { extender = w.first.extender; message = (asked (s.askers w.first.extender) w.first.request).1 }
          ∷ [];
      downs = [];
    }

abbrev pub works : Job → Change → Phase → AskAt → List AskAt → State → Moved
works j x phase first rest s = asking (record { job = j; change = x; phase = phase; first = first; rest = rest }) s

-- ---- one change
-- all is answered: the numbers of the change are free
abbrev pub ends : Change → State → State
ends x s = record s { work = None; held = release x s.held }

abbrev pub cleans : Job → Change → List AskAt → State → Moved
cleans j x [] s = still (ends x s)
cleans j x (first ∷ rest) s = works j x Cleaning first rest s

-- the change takes effect, and its cleanup begins
abbrev pub commits : Job → Change → State → Moved
commits j x s =
    followed_by (record { state = s; events = committed j; asks = []; downs = downs_of j })
    (cleans j x x.cleanup (record s { bridge = bridge_after j s.bridge }))

abbrev pub prepares : Job → Change → List AskAt → State → Moved
prepares j x [] s = commits j x s
prepares j x (first ∷ rest) s = works j x Preparing first rest s

-- what becomes of a job at the head of the queue
abbrev pub starts : Job → Outcome → State → Moved
starts j (Refused cause) s = record { state = s; events = refused j cause; asks = []; downs = [] }
starts j (Ready x claimed) s = prepares j x x.prepare (record s { held = claimed })

-- ---- the queue
-- an opening waits for the announcement of its extender
abbrev pub waits : State → Job → Bool
waits s (job.Opening n) = not (s.heard n)
waits s (job.AutomaticUp p) = false
waits s (job.Ordered n c) = false

-- the head was started: a request is outstanding, or the queue goes on
abbrev pub after_start : List Job → Option Work → Moved → Moved → Moved
after_start rest None started onward = followed_by started onward
after_start rest (Some w) started onward = record started { state = record started.state { queue = rest } }

-- jobs are started until a request is outstanding, an opening waits, or none is left
unfoldable pub goes_on : Decide → List Job → State → Moved
goes_on decide [] s = still (record s { queue = [] })
goes_on decide (j ∷ js) s =
    if waits s j then still (record s { queue = j ∷ js })
    else after_start js (starts j (decide s.bridge s.held j) s).state.work (starts j (decide s.bridge s.held j) s)
    (goes_on decide js (starts j (decide s.bridge s.held j) s).state)

abbrev pub wakes_by : Decide → Option Work → State → Moved
wakes_by decide None s = goes_on decide s.queue s
wakes_by decide (Some w) s = still s

-- the queue goes on where no request is outstanding
abbrev pub wakes : Decide → State → Moved
wakes decide s = wakes_by decide s.work s

-- ---- answers
-- the last request of a phase is answered
abbrev pub phase_ends : Decide → Work → Phase → State → Moved
phase_ends decide w Preparing s =
    followed_by (commits w.job w.change (record s { work = None }))
    (wakes decide (commits w.job w.change (record s { work = None })).state)
phase_ends decide w Cleaning s = wakes decide (ends w.change s)

-- the outstanding request is answered: the next one goes out
abbrev pub answered_by : Decide → Work → List AskAt → State → Moved
answered_by decide w [] s = phase_ends decide w w.phase s
answered_by decide w (first ∷ rest) s = works w.job w.change w.phase first rest s

abbrev pub answered_in : Decide → Option Work → State → Moved
answered_in decide None s = still s
answered_in decide (Some w) s = answered_by decide w w.rest s

-- a message of extender n is the answer that is waited for, or nothing changes
abbrev pub answered_where : Decide → Taken → State → Moved
answered_where decide (taken.Answer response) s = answered_in decide s.work s
answered_where decide taken.Stale s = still s
answered_where decide taken.NotOurs s = still s

-- ---- the steps
-- a command is given
abbrev pub ordered : Decide → Command → State → Moved
ordered decide c s = wakes decide (record s {
  queue = s.queue ++ job.Ordered (s.given + 1) c ∷ [];
  given = s.given + 1;
})

-- extender n is heard
abbrev pub heard : Decide → ℕ → State → Moved
heard decide n s = wakes decide (record s { heard = λ m. m == n || s.heard m })

-- a message comes from extender n
abbrev pub answered : Decide → ℕ → Message → State → Moved
answered decide n m s =
    answered_where decide (took (s.askers n) m).1 (with_asker n (took (s.askers n) m).0 s)

abbrev pub messages_due : ℕ → Bool → Option Message → List Asked
messages_due n true (Some m) = record { extender = n; message = m } ∷ []
messages_due n true None = []
messages_due n false m = []

abbrev pub beats_in : Option Work → State → Moved
beats_in None s = still s
beats_in (Some w) s =
    record {
      state = with_asker w.first.extender (beaten (s.askers w.first.extender)).0 s;
      events = [];
      asks = messages_due w.first.extender (beaten (s.askers w.first.extender)).1
          (message_again (s.askers w.first.extender));
      downs = [];
    }

-- a beat: the outstanding request goes out again at each sixteenth beat without an answer
abbrev pub beats : State → Moved
beats s = beats_in s.work s
