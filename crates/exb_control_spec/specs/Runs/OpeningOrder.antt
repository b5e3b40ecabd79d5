-- In which order extenders are heard, opened and asked, and how much they are asked at most.
use Rattle.std.specs.Prelude.{◌≡◌, ℕ, ◌+◌, ◌*◌, ◌<◌, ◌≤◌, ◌^◌, true, false, Bool, List, [], ◌∷◌, length, Option, Some, None}
use Rattle.exb_model.specs.Configuration.{Bridge}
use Rattle.exb_model.specs.Setup.{Limits}
use Rattle.exb_model.specs.Tree.{Shape, IsTree, is_extender}
use Rattle.exb_csp.specs.declared.ask_at.AskAt.{AskAt}
use Rattle.exb_csp.specs.declared.message.Request.{Request}
use Rattle.exb_csp.specs.declared.message.Request.TheVariants.{Open}
use Rattle.exb_control_spec.specs.declared.job.Job.{Job}
use Rattle.exb_control_spec.specs.declared.job.Job.TheVariants as job
use Rattle.exb_control_spec.specs.declared.job.Phase.{Phase}
use Rattle.exb_control_spec.specs.declared.job.Phase.TheVariants.{Preparing, Cleaning}
use Rattle.exb_control_spec.specs.InitialState.{first_state}
use Rattle.exb_control_spec.specs.Decisions.{decide}
use Rattle.exb_control_spec.specs.Machine.{Work, State}
use Rattle.exb_control_spec.specs.Runs.PlannedChanges.{IsSetting, planning}
use Rattle.exb_control_spec.specs.Runs.MachineInvariant.{opened_by, Stands, MayStep}
use Rattle.exb_control_spec.specs.Runs.Systems.{System, Step, stepped}

-- ---- what the queue waits for
-- Where no request is outstanding, the queue is empty, or its head is the opening of an extender that wasn't heard.
abbrev pub Awaits : (ℕ → Bool) → Option Work → List Job → Type 0
Awaits heard (Some w) js = Unit {0}
Awaits heard None [] = Unit {0}
Awaits heard None (job.Opening n ∷ js) = heard n ≡ false
Awaits heard None (job.AutomaticUp p ∷ js) = ⊥
Awaits heard None (job.Ordered n c ∷ js) = ⊥

-- ---- how much is asked
-- the requests of so many jobs at most
unfoldable pub asks_for : ℕ → ℕ
asks_for n = 2 ^ 21 * n

-- the requests of the change at work that were not asked yet
abbrev pub left_in : Phase → List AskAt → List AskAt → ℕ
left_in Preparing rest cleanup = length rest + length cleanup
left_in Cleaning rest cleanup = length rest

abbrev pub left_of : Option Work → ℕ
left_of None = 0
left_of (Some w) = left_in w.phase w.rest w.change.cleanup

-- ---- extenders in their turn
-- An extender whose opening is still to come was asked nothing; each other one was heard, and asked something, at first
-- to open. No extender is asked more than the jobs so far may ask.
pub record InTurn (t : Shape) (s : State) : Type 0 where
  pub unasked : (n : ℕ) → opened_by (is_extender t) s.queue n ≡ false → (s.askers n).serial ≡ 0
  pub asked : (n : ℕ) → opened_by (is_extender t) s.queue n ≡ true → 0 < (s.askers n).serial
  pub heard : (n : ℕ) → opened_by (is_extender t) s.queue n ≡ true → s.heard n ≡ true
  pub first : (n : ℕ) (request : Request) → (s.askers n).waiting ≡ Some request → (s.askers n).serial ≡ 1
      → request ≡ Open
  pub awaits : Awaits s.heard s.work s.queue
  pub few : (n : ℕ) → (s.askers n).serial + left_of s.work + asks_for (length s.queue) ≤ asks_for (4160 + s.given)

-- ---- the laws
-- So it is as the machine begins.
abbrev pub BeginsInTurn : Type 0
BeginsInTurn = (t : Shape) (l : Limits) (b : Bridge) → IsTree t → InTurn t (first_state t l b)

-- And each step keeps it.
abbrev pub StepsKeepTurns : Type 0
StepsKeepTurns =
    (t : Shape) (l : Limits) → IsSetting t l → (y : System) (step : Step) → Stands (planning t) y
    → MayStep (planning t) y step → InTurn t y.state →
    InTurn t (stepped (decide t l) y step).state

-- So serials stay low, as long as at most 65,536 commands were given.
abbrev pub SerialsStayLow : Type 0
SerialsStayLow = (t : Shape) (s : State) → InTurn t s → s.given ≤ 65536 → (n : ℕ) → (s.askers n).serial < 2 ^ 38
