-- Which events a step adds, by its kind.
use Rattle.std.specs.Prelude.{◌≡◌, ℕ, ◌<◌, ◌≤◌, true, false, if◌then◌else◌, List, [], ◌∷◌, Some}
use Rattle.exb_model.specs.declared.event.Event.{Event}
use Rattle.exb_model.specs.declared.event.Event.TheVariants as event
use Rattle.exb_model.specs.EagerHistory.{arrival_event}
use Rattle.exb_model.specs.ETags.{stripped}
use Rattle.exb_model.specs.History.{Basis, History}
use Rattle.exb_model.specs.declared.arrival.Arrival.{Arrival}
use Rattle.exb_model.specs.Setup.{Limits}
use Rattle.exb_model.specs.Tree.{Shape, device, on, port_number}
use Rattle.exb_extender.specs.Forwarding.{is_ignored}
use Rattle.exb_link.specs.declared.link_frame.Stamp.{Stamp}
use Rattle.exb_link.specs.declared.link_frame.LinkFrame.{LinkFrame}
use Rattle.exb_world_spec.specs.DataFrames.{arrival_by}
use Rattle.exb_world_spec.specs.Steps.{first_data, stepped}
use Rattle.exb_world_spec.specs.Worlds.{World, Way, Up, Down, Step, Arrive, Carry, Control, Lose, Beat, Tick, Order, Mark, Left}
use Rattle.exb_world_spec.specs.Runs.Journal.{is_to_bridge}
use Rattle.exb_world_spec.specs.Runs.Simulation.{jobs_in}
use Rattle.exb_world_laws.specs.WorldInput.{Given}
use Rattle.exb_world_laws.specs.WorldInvariant.{MayStart, MayDo, Kept}

-- of a word that the bridge takes: exactly one, Relay or Ignored of the record of its stamp
pub record IsTold (w : World) (n : ℕ) (es : List Event) : Type 0 where
  pub word : LinkFrame
  pub first : first_data (w.up n) ≡ Some word
  pub stamp : Stamp
  pub stamped : word.stamp ≡ Some stamp
  pub is : es ≡ arrival_event w.control.bridge (arrival_by stamp.port stamp (stripped word.bytes)) ∷ []

-- Of an arrival at a port of the bridge exactly one, Relay or Ignored of that record; at a port of an extender Ignored
-- exactly where the extender ignores it, and else none.
pub record IsArrival (w : World) (a : Arrival) (es : List Event) : Type 0 where
  pub local : a.port < 64 → es ≡ arrival_event w.control.bridge a ∷ []
  pub extended : 64 ≤ a.port → es ≡ (if is_ignored ((w.far (device a.port)).tables.own (port_number a.port)) a.bytes
      then event.Ignored a.port a.index ∷ [] else [])

pub record IsCarried (t : Shape) (w : World) (n : ℕ) (es : List Event) : Type 0 where
  pub bridge : on t n < 64 → IsTold w n es
  pub other : 64 ≤ on t n → es ≡ []

-- of a control word that the bridge takes any number of Commit, Refuse, Up and NoUp
pub record IsControlled (t : Shape) (n : ℕ) (way : Way) (es : List Event) : Type 0 where
  pub bridge : is_to_bridge t n way ≡ true → jobs_in es ≡ es
  pub other : is_to_bridge t n way ≡ false → es ≡ []

abbrev pub TellsOf : Shape → World → Step → List Event → Type 0
TellsOf t w (Arrive a) es = IsArrival w a es
TellsOf t w (Carry n Up) es = IsCarried t w n es
TellsOf t w (Carry n Down) es = es ≡ []
TellsOf t w (Control n way k keep) es = IsControlled t n way es
TellsOf t w (Lose n way k) es = es ≡ []
TellsOf t w Beat es = es ≡ []
TellsOf t w (Tick seconds) es = es ≡ event.Tick seconds ∷ []
TellsOf t w (Order c) es = jobs_in es ≡ es
TellsOf t w Mark es = es ≡ event.Settled ∷ []

-- So it is for every step that may be made.
abbrev pub StepsTellSo : Type 0
StepsTellSo =
    (t : Shape) (l : Limits) (i : Basis) → MayStart t l i
    → (w : World) (g : List Given) (h : History) (left : List Left) → Kept t l i w g h left → (step : Step)
    → MayDo t l w step →
    TellsOf t w step (stepped t l step w).events
