-- Which of the frames that are relayed pass.
use Rattle.std.specs.Prelude.{◌≡◌, Bool, is_some, List, [], ◌∷◌, ◌++◌}
use Rattle.exb_model.specs.declared.event.Event.{Event}
use Rattle.exb_model.specs.declared.event.Event.TheVariants as event
use Rattle.exb_model.specs.Configuration.{Bridge}
use Rattle.exb_model.specs.History.{Basis, History, bridge_after}
use Rattle.exb_model.specs.Learning.{passes}
use Rattle.exb_model.specs.Setup.{Limits}
use Rattle.exb_model.specs.Tree.{Shape}
use Rattle.exb_world_spec.specs.Steps.{stepped}
use Rattle.exb_world_spec.specs.Worlds.{World, Step}

-- of a Relay whether its frame passes, and of any other event nothing
abbrev pub passed_by : Bridge → Event → List Bool
passed_by b (event.Relay p n t f) = is_some (passes b p f) ∷ []
passed_by b _ = []

-- for each Relay of a list of events, in one configuration
abbrev pub passed_in : Bridge → List Event → List Bool
passed_in b [] = []
passed_in b (e ∷ es) = passed_by b e ++ passed_in b es

-- for each Relay among the events after a history, in the configuration before it
abbrev pub passed_over : Basis → History → List Event → List Bool
passed_over i h [] = []
passed_over i h (e ∷ es) = passed_by (bridge_after i h) e ++ passed_over i (e ∷ h) es

-- A step says it of each Relay among its events, in the configuration before the step.
abbrev pub StepsTellPassed : Type 0
StepsTellPassed = (t : Shape) (l : Limits) (w : World) (step : Step) → (stepped t l step w).passed
    ≡ passed_in w.control.bridge (stepped t l step w).events
