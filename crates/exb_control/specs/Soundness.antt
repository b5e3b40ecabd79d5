-- What holds of the control while memory hasn't run out.
use Rattle.std.specs.Prelude.{◌≡◌, ◌≢◌, ℕ, ◌+◌, ◌-◌, ◌*◌, ◌^◌, ◌<◌, true, List, [], ◌∷◌, Option, Some, None, is_none, length}
use Rattle.exb_csp.specs.Sessions.AskingEnd.{AskerState}
use Rattle.exb_csp.specs.declared.ask_at.AskAt.{AskAt}
use Rattle.exb_control_spec.specs.declared.plan.change.Change.{Change}
use Rattle.exb_control_spec.specs.declared.job.Job.{Job}
use Rattle.exb_control_spec.specs.declared.job.Phase.{Phase}
use Rattle.exb_control_spec.specs.declared.job.Phase.TheVariants.{Preparing, Cleaning}
use Rattle.exb_control.specs.declared.stage.Stage.TheVariants.{AtRest}
use Rattle.exb_control_spec.specs.JobsOfTree.{AreFit}
use Rattle.exb_control_spec.specs.Machine.{Work}
use Rattle.exb_control.specs.declared.change_execution.ChangeExecutor.{ChangeExecutor}
use Rattle.exb_control.specs.Controls.{work_at}
use Rattle.exb_control.specs.EncodableRequests.{Spells}
use Rattle.exb_control.specs.MachineSteps.{askers_of}

-- ---- requests
-- each request is to an extender with a number of 1 to 64
abbrev pub AreKnown : List AskAt → Type 0
AreKnown [] = Unit {0}
AreKnown (a ∷ rest) = (a.extender < 65) × AreKnown rest

-- so many more requests can have serials, whomever they go to
abbrev pub HasRoom : ℕ → (ℕ → AskerState) → Type 0
HasRoom k askers = (n : ℕ) → (askers n).serial + k < 2 ^ 40

-- no answer is waited for, and so many more requests can be asked
pub record MayAsk (k : ℕ) (askers : ℕ → AskerState) : Type 0 where
  pub idle : (n : ℕ) → (askers n).waiting ≡ None
  pub room : HasRoom k askers

-- a request can be asked, if there is one
abbrev pub CanAsk : Option AskAt → (ℕ → AskerState) → Type 0
CanAsk o askers = (a : AskAt) → o ≡ Some a → (a.extender < 65) × MayAsk 1 askers

-- ---- work
-- the requests of a change after those of its phase
abbrev pub later : Phase → Change → List AskAt
later Preparing x = x.cleanup
later Cleaning x = []

-- how many follow the outstanding one
abbrev pub following : Work → ℕ
following w = length w.rest + length (later w.phase w.change)

-- An answer is waited for from nobody but the extender of the outstanding request, and so many requests can
-- be asked beside those of the change.
pub record IsWaiting (k : ℕ) (w : Work) (askers : ℕ → AskerState) : Type 0 where
  pub others : (n : ℕ) → n ≢ w.first.extender → (askers n).waiting ≡ None
  pub room : HasRoom (following w + k) askers
  pub first : w.first.extender < 65
  pub rest : AreKnown w.rest
  pub later : AreKnown (later w.phase w.change)

abbrev pub IsSteady : ℕ → Option Work → (ℕ → AskerState) → Type 0
IsSteady k None askers = MayAsk k askers
IsSteady k (Some w) askers = IsWaiting k w askers

-- where no request is outstanding, no change is at work
abbrev pub AsksOrRests : ChangeExecutor → Type 0
AsksOrRests c = is_none (work_at c.active.stage c.place) ≡ true → c.active.stage ≡ AtRest

-- the requests of these jobs and of the commands that may still be given, at most 2^21 each
abbrev pub to_come : List Job → ℕ → ℕ
to_come queue given = 2 ^ 21 * (length queue + (65536 - given))

-- what holds while memory hasn't run out
pub record IsSound (c : ChangeExecutor) (queue : List Job) (given : ℕ) : Type 0 where
  pub fit : AreFit c.active.shape queue
  pub asks : AsksOrRests c
  pub steady : IsSteady (to_come queue given) (work_at c.active.stage c.place) (askers_of c.sessions)
  pub spells : Spells c.active.shape (work_at c.active.stage c.place) (askers_of c.sessions)
