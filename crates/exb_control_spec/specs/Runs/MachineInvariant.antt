-- What is true of the machine and the tables at every moment, whatever the plans are.
use Rattle.std.specs.Prelude.{◌≡◌, ℕ, ◌≤◌, ◌^◌, ◌==◌, ◌&&◌, ◌||◌, Bool, true, false, not, if◌then◌else◌, List, [], ◌∷◌, Option, Some, None, length}
use Rattle.std.specs.List.{list_any}
use Rattle.exb_model.specs.declared.command.Command.{Command}
use Rattle.exb_model.specs.declared.event.Cause.{Cause}
use Rattle.exb_model.specs.Configuration.{Bridge}
use Rattle.exb_csp.specs.declared.message.Request.{Request}
use Rattle.exb_csp.specs.declared.message.Response.{Response}
use Rattle.exb_csp.specs.Execution.{ExtenderTables}
use Rattle.exb_csp.specs.RequestKinds.{kind_of}
use Rattle.exb_csp.specs.declared.ask_at.AskAt.{AskAt}
use Rattle.exb_control_spec.specs.declared.plan.change.Change.{Change}
use Rattle.exb_control_spec.specs.Plans.HeldNumbers.{Held}
use Rattle.exb_csp.specs.AllTables.{RunsAt}
use Rattle.exb_control_spec.specs.declared.job.Job.{Job}
use Rattle.exb_control_spec.specs.declared.job.Job.TheVariants as job
use Rattle.exb_control_spec.specs.declared.job.Phase.{Phase}
use Rattle.exb_control_spec.specs.declared.job.Phase.TheVariants.{Preparing, Cleaning}
use Rattle.exb_control_spec.specs.Decisions.{Refused, Ready, Decide, bridge_after, release}
use Rattle.exb_control_spec.specs.Machine.{Work, State}
use Rattle.exb_control_spec.specs.Runs.MonotoneRequests.{AreWithin, AllAdd, AllClear, Keeps}
use Rattle.exb_control_spec.specs.Runs.Systems.{System, Step, Order, Stray, IsStray, code_in, stepped, run}

-- ---- opened extenders
abbrev pub is_opening : ℕ → Job → Bool
is_opening n (job.Opening m) = m == n
is_opening n (job.AutomaticUp p) = false
is_opening n (job.Ordered number c) = false

-- An extender of those that there are is opened where its opening isn't still to be done.
abbrev pub opened_by : (ℕ → Bool) → List Job → ℕ → Bool
opened_by there js n = there n && not (list_any (is_opening n) js)

-- which extenders are opened after a job
abbrev pub opens : Job → (ℕ → Bool) → ℕ → Bool
opens (job.Opening n) opened = λ m. m == n || opened m
opens (job.AutomaticUp p) opened = opened
opens (job.Ordered n c) opened = opened

-- ---- plans
-- so many requests has a plan at most before its commit, and after it
unfoldable pub most_asks : ℕ
most_asks = 2 ^ 20

-- What the plans of a kind of change are to the machine: which extenders there are; by which of them are opened, the
-- tables where just what is held is laid, what holds of configuration and numbers at rest, and in the middle of a
-- change from one configuration to another, and which jobs may be decided; and which commands may come.
pub record Planning : Type 1 where
  pub there : ℕ → Bool
  pub laid : (ℕ → Bool) → Held → ℕ → ExtenderTables
  pub Exact : (ℕ → Bool) → Bridge → Held → Type 0
  pub During : (ℕ → Bool) → Bridge → Bridge → Held → Type 0
  pub MayCome : Command → Type 0
  pub Fits : (ℕ → Bool) → Job → Type 0

-- Requests go to opened extenders, and are at most 2 ^ 20.
abbrev pub GoTo : (ℕ → Bool) → List AskAt → Type 0
GoTo opened [] = Unit {0}
GoTo opened (a ∷ more) = (opened a.extender ≡ true) × GoTo opened more

pub record AreFew (opened : ℕ → Bool) (asks : List AskAt) : Type 0 where
  pub go : GoTo opened asks
  pub few : length asks ≤ most_asks

-- What a plan promises. Its prepare goes from the tables of what is held to those of what is claimed, its cleanup from
-- there to those of what is left, with no code but 0; and what holds at rest holds again. The prepare only adds to the
-- tables, and the cleanup only clears; all that was held is held where the numbers are claimed. All that is asked goes
-- to extenders that are opened after the job, and isn't much.
pub record IsPlanned (p : Planning) (opened : ℕ → Bool) (b : Bridge) (h : Held) (j : Job) (x : Change)
    (claimed : Held) : Type 0 where
  pub prepared : RunsAt (p.laid opened h) x.prepare (p.laid (opens j opened) claimed)
  pub cleaned : RunsAt (p.laid (opens j opened) claimed) x.cleanup (p.laid (opens j opened) (release x claimed))
  pub exact : p.Exact (opens j opened) (bridge_after j b) (release x claimed)
  pub during : p.During (opens j opened) b (bridge_after j b) claimed
  pub adds : AllAdd x.prepare
  pub clears : AllClear x.cleanup
  pub kept : Keeps h claimed
  pub first_asks : AreFew (opens j opened) x.prepare
  pub last_asks : AreFew (opens j opened) x.cleanup

-- each change that is decided is so planned, and no opening is refused
pub record Plans (p : Planning) (decide : Decide) : Type 0 where
  pub ready : (opened : ℕ → Bool) (b : Bridge) (h : Held) (j : Job) (x : Change) (claimed : Held) → p.Exact opened b h
      → p.Fits opened j →
      decide b h j ≡ Ready x claimed → IsPlanned p opened b h j x claimed
  pub refused : (opened : ℕ → Bool) (b : Bridge) (h : Held) (j : Job) (cause : Cause) → decide b h j ≡ Refused cause
      → opens j opened ≡ opened

-- ---- what stands
-- a job fits when its turn comes, and its extender isn't opened twice
pub record FitsBefore (p : Planning) (j : Job) (js : List Job) : Type 0 where
  pub fits : p.Fits (opened_by p.there (j ∷ js)) j
  pub once : opens j (opened_by p.there (j ∷ js)) ≡ opened_by p.there js

-- so does each one that is queued, and any command after them
abbrev pub AllFit : Planning → List Job → Type 0
AllFit p [] = (n : ℕ) (c : Command) → p.MayCome c → p.Fits (opened_by p.there []) (job.Ordered n c)
AllFit p (j ∷ js) = FitsBefore p j js × AllFit p js

-- Nothing is outstanding and these jobs are queued: just what is held is laid.
pub record Rests (p : Planning) (s : State) (js : List Job) (all : ℕ → ExtenderTables) : Type 0 where
  pub laid : all ≡ p.laid (opened_by p.there js) s.held
  pub exact : p.Exact (opened_by p.there js) s.bridge s.held
  pub fits : AllFit p js

-- the requests that are still to be executed lead from the tables to these
abbrev pub RunsLeft : Option Response → (ℕ → ExtenderTables) → AskAt → List AskAt → (ℕ → ExtenderTables) → Type 0
RunsLeft None all first rest end = RunsAt all (first ∷ rest) end
RunsLeft (Some response) all first rest end = RunsAt all rest end

abbrev pub InPhase : Planning → Phase → Work → (ℕ → Bool) → Option Response → (ℕ → ExtenderTables) → Held → Type 0
InPhase p Preparing w opened answer all claimed =
    RunsLeft answer all w.first w.rest (p.laid opened claimed)
    × RunsAt (p.laid opened claimed) w.change.cleanup (p.laid opened (release w.change claimed))
InPhase p Cleaning w opened answer all claimed = RunsLeft answer all w.first w.rest
    (p.laid opened (release w.change claimed))

-- the configuration before the change, where this one is in force
abbrev pub IsBefore : Phase → Job → Bridge → Bridge → Type 0
IsBefore Preparing j old b = b ≡ old
IsBefore Cleaning j old b = b ≡ bridge_after j old

-- what was done so far: the prepare added to what was laid before, the cleanup cleared what is claimed
abbrev pub IsSince : Phase → (ℕ → ExtenderTables) → (ℕ → ExtenderTables) → (ℕ → ExtenderTables) → Type 0
IsSince Preparing begun all claimed = AreWithin begun all
IsSince Cleaning begun all claimed = AreWithin all claimed

abbrev pub AreKinds : Phase → AskAt → List AskAt → List AskAt → Type 0
AreKinds Preparing first rest cleanup = AllAdd (first ∷ rest) × AllClear cleanup
AreKinds Cleaning first rest cleanup = AllClear (first ∷ rest)

-- an answer on its way is one to the request, with code 0
abbrev pub Answers : Option Response → Request → Type 0
Answers None request = Unit {0}
Answers (Some response) request = (response.to ≡ kind_of request) × (response.code ≡ 0)

-- A request is outstanding.
pub record Works (p : Planning) (w : Work) (s : State) (js : List Job) (all : ℕ → ExtenderTables)
    (answer : Option Response) : Type 0 where
  -- the requests left lead to the tables of what is claimed, those after them to the tables of what is left
  pub left : InPhase p w.phase w (opened_by p.there js) answer all s.held
  -- the configuration in force is the old one or the new one
  pub old : Bridge
  pub bridge : IsBefore w.phase w.job old s.bridge
  pub during : p.During (opened_by p.there js) old (bridge_after w.job old) s.held
  -- once all is answered, what holds at rest holds again
  pub exact : p.Exact (opened_by p.there js) (bridge_after w.job old) (release w.change s.held)
  pub fits : AllFit p js
  pub answers : Answers answer w.first.request
  -- what was held when the change was decided, and which extenders were opened then
  pub before : Held
  pub were : ℕ → Bool
  pub had : p.Exact were old before
  pub kept : Keeps before s.held
  -- what was done so far, and what the requests left do
  pub since : IsSince w.phase (p.laid were before) all (p.laid (opened_by p.there js) s.held)
  pub kinds : AreKinds w.phase w.first w.rest w.change.cleanup
  -- which extenders are opened now
  pub now : opens w.job were ≡ opened_by p.there js
  -- to whom the requests left go
  pub asks : AreFew (opened_by p.there js) (w.first ∷ w.rest)
  pub last_asks : AreFew (opened_by p.there js) w.change.cleanup

abbrev pub StandsBy : Planning → Option Work → State → List Job → (ℕ → ExtenderTables) → Option Response → Type 0
StandsBy p None s js all answer = Rests p s js all × (answer ≡ None)
StandsBy p (Some w) s js all answer = Works p w s js all answer

-- ---- who waits
abbrev pub waited_at : AskAt → ℕ → Option Request
waited_at a n = if n == a.extender then Some a.request else None

-- the request that is waited for from extender n: the outstanding one, if it is that extender's
abbrev pub waited_for : Option Work → ℕ → Option Request
waited_for None n = None
waited_for (Some w) n = waited_at w.first n

-- An asker waits exactly where its extender is that of the outstanding request, and for that one.
abbrev pub OneWaits : State → Type 0
OneWaits s = (n : ℕ) → (s.askers n).waiting ≡ waited_for s.work n

-- ---- the laws
pub record Stands (p : Planning) (y : System) : Type 0 where
  pub stands : StandsBy p y.state.work y.state y.state.queue y.tables y.answer
  pub waits : OneWaits y.state

-- a step that may happen
abbrev pub MayStep : Planning → System → Step → Type 0
MayStep p y (Order c) = p.MayCome c
MayStep p y (Stray n m) = IsStray y.state n m
MayStep p y _ = Unit {0}

-- Each step keeps what stands, and no extender answers another code than 0.
abbrev pub StepsStand : Type 1
StepsStand =
    (p : Planning) (decide : Decide) → Plans p decide → (y : System) (step : Step) → Stands p y → MayStep p y step →
    Stands p (stepped decide y step) × (code_in y step ≡ 0)

-- each step of a run may happen
abbrev pub MayRun : Planning → Decide → System → List Step → Type 0
MayRun p decide y [] = Unit {0}
MayRun p decide y (step ∷ steps) = MayStep p y step × MayRun p decide (stepped decide y step) steps

-- each code of a run is 0
abbrev pub CodesAreZero : Decide → System → List Step → Type 0
CodesAreZero decide y [] = Unit {0}
CodesAreZero decide y (step ∷ steps) = (code_in y step ≡ 0) × CodesAreZero decide (stepped decide y step) steps

-- So it is over every run.
abbrev pub RunsStand : Type 1
RunsStand =
    (p : Planning) (decide : Decide) → Plans p decide → (y : System) (steps : List Step) → Stands p y
    → MayRun p decide y steps →
    Stands p (run decide steps y) × CodesAreZero decide y steps
