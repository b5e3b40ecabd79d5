-- Data words have stamps.
use Rattle.std.specs.Prelude.{◌≡◌, ℕ, true, false, ◌<◌, ◌≤◌, if◌then◌else◌, List, [], ◌∷◌, Some}
use Rattle.exb_model.specs.declared.event.Event.{Event}
use Rattle.exb_model.specs.Tree.{Shape, on, device, trunk, is_external, port_number}
use Rattle.exb_model.specs.Setup.{Limits}
use Rattle.exb_model.specs.Configuration.{Bridge}
use Rattle.exb_model.specs.ETags.{read_etag, stripped}
use Rattle.exb_model.specs.declared.event.Event.TheVariants as event
use Rattle.exb_model.specs.declared.arrival.Arrival.{Arrival}
use Rattle.exb_model.specs.EagerHistory.{arrival_event}
use Rattle.exb_extender.specs.Forwarding.{is_ignored}
use Rattle.exb_control_spec.specs.Runs.PlannedChanges.{IsSetting}
use Rattle.exb_world_spec.specs.Runs.Simulation.{IsSound}
use Rattle.exb_link.specs.declared.link_frame.Stamp.{Stamp}
use Rattle.exb_link.specs.declared.link_frame.LinkFrame.{LinkFrame}
use Rattle.exb_link.specs.LinkFrames.{is_control}
use Rattle.exb_world_spec.specs.Worlds.{World, Way, Step, Arrive, Carry, first_world}
use Rattle.exb_world_spec.specs.DataFrames.{holder_by, arrival_by}
use Rattle.exb_world_spec.specs.Steps.{stepped, words_on, first_data}
use Rattle.exb_world_spec.specs.Settling.{run}
use Rattle.exb_world_spec.specs.Runs.Sessions.{Each}
use Rattle.exb_world_spec.specs.Runs.Journal.{is_to_bridge}

abbrev pub IsStamped : LinkFrame → Type 0
IsStamped x = is_control x ≡ false → (s : Stamp) × (x.stamp ≡ Some s)

pub record AreStamped (w : World) : Type 0 where
  pub downs : (n : ℕ) → Each IsStamped (w.down n)
  pub ups : (n : ℕ) → Each IsStamped (w.up n)

-- So it is over each run from the beginning.
abbrev pub DataIsStamped : Type 0
DataIsStamped = (t : Shape) (l : Limits) (b : Bridge) (ageing : ℕ) (steps : List Step)
    → AreStamped (run t l steps (first_world t l b ageing)).world

-- So of a data word that the bridge takes exactly one event is told, Relay or Ignored with its stamp, where an external
-- port holds its channel.
pub record IsOfPort (t : Shape) (w : World) (n : ℕ) (x : LinkFrame) : Type 0 where
  pub port : ℕ
  pub held : holder_by w (on t n) (read_etag x.bytes) ≡ Some port
  pub external : is_external t port ≡ true

pub record TellsOfStamp (w : World) (port : ℕ) (x : LinkFrame) (es : List Event) : Type 0 where
  pub stamp : Stamp
  pub stamped : x.stamp ≡ Some stamp
  pub is : es ≡ arrival_event w.control.bridge (arrival_by port stamp (stripped x.bytes)) ∷ []

abbrev pub CarriesTellOnce : Type 0
CarriesTellOnce =
    (t : Shape) (l : Limits) (w : World) (n : ℕ) (way : Way) (x : LinkFrame) → AreStamped w
    → is_to_bridge t n way ≡ true → first_data (words_on n way w) ≡ Some x → (k : IsOfPort t w n x) →
    TellsOfStamp w k.port x (stepped t l (Carry n way) w).events

-- ---- what an extender ignores
-- In a sound world, a frame that arrives at an external port of an extender is ignored exactly where the port has no
-- channel or the frame isn't of a kind to send; and where the port has one, it holds that.
pub record IgnoresExactly (t : Shape) (w : World) (a : Arrival) (es : List Event) : Type 0 where
  pub events : es ≡ (if is_ignored ((w.far (device a.port)).tables.own (port_number a.port)) a.bytes then event.Ignored
      a.port a.index ∷ [] else [])
  pub holds : 0 < (w.far (device a.port)).tables.own (port_number a.port)
      → w.control.held.port (trunk t (device a.port)) ((w.far (device a.port)).tables.own (port_number a.port))
      ≡ Some a.port

abbrev pub ExtendersIgnore : Type 0
ExtendersIgnore =
    (t : Shape) (l : Limits) → IsSetting t l → (w : World) (a : Arrival) → IsSound t l w → 64 ≤ a.port
    → is_external t a.port ≡ true → IgnoresExactly t w a (stepped t l (Arrive a) w).events
