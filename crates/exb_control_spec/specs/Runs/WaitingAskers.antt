-- Who waits, and the serials of requests.
use Rattle.std.specs.Prelude.{◌≡◌, ℕ, ◌+◌, ◌==◌, List, [], ◌∷◌, ◌++◌, filter, length}
use Rattle.exb_model.specs.Tree.{Shape}
use Rattle.exb_model.specs.Setup.{Limits}
use Rattle.exb_model.specs.Configuration.{Bridge}
use Rattle.exb_control_spec.specs.declared.extender_message.Asked.{Asked}
use Rattle.exb_control_spec.specs.Decisions.{Decide}
use Rattle.exb_control_spec.specs.Machine.{State}
use Rattle.exb_control_spec.specs.Runs.Systems.{System, Step, Beat, moved, stepped, run}
use Rattle.exb_control_spec.specs.Runs.MachineInvariant.{OneWaits}
use Rattle.exb_control_spec.specs.Runs.InitialSystem.{first_system}

-- the requests that a step asks: a beat only repeats one
abbrev pub asked_in : Decide → System → Step → List Asked
asked_in decide y Beat = []
asked_in decide y step = (moved decide y step).asks

abbrev pub asked_over : Decide → System → List Step → List Asked
asked_over decide y [] = []
asked_over decide y (step ∷ steps) = asked_in decide y step ++ asked_over decide (stepped decide y step) steps

-- how many of them are asked of extender n
abbrev pub asked_of : ℕ → List Asked → ℕ
asked_of n asks = length (filter (λ a. a.extender == n) asks)

-- each has the serial that its asker then has
abbrev pub AreNumbered : State → List Asked → Type 0
AreNumbered s [] = Unit {0}
AreNumbered s (a ∷ more) = (a.message.serial ≡ (s.askers a.extender).serial) × AreNumbered s more

-- Each step keeps that an asker waits exactly where its extender is that of the outstanding request.
abbrev pub StepsWait : Type 0
StepsWait = (decide : Decide) (y : System) (step : Step) → OneWaits y.state → OneWaits (stepped decide y step).state

-- So it is over each run from the beginning.
abbrev pub OneWaitsAlways : Type 0
OneWaitsAlways = (t : Shape) (l : Limits) (b : Bridge) (decide : Decide) (steps : List Step)
    → OneWaits (run decide steps (first_system t l b)).state

-- A step adds the requests that it asks to the serial of each asker, and they go out under the new serial.
pub record Numbers (decide : Decide) (y : System) (step : Step) : Type 0 where
  pub serials : (n : ℕ) → ((stepped decide y step).state.askers n).serial
      ≡ (y.state.askers n).serial + asked_of n (asked_in decide y step)
  pub numbered : AreNumbered (stepped decide y step).state (asked_in decide y step)

abbrev pub StepsNumber : Type 0
StepsNumber = (decide : Decide) (y : System) (step : Step) → Numbers decide y step

-- So the serial of each asker is the number of requests that were asked of it.
abbrev pub SerialsCount : Type 0
SerialsCount =
    (t : Shape) (l : Limits) (b : Bridge) (decide : Decide) (steps : List Step) (n : ℕ) →
    ((run decide steps (first_system t l b)).state.askers n).serial
    ≡ asked_of n (asked_over decide (first_system t l b) steps)
