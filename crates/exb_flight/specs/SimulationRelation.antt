-- A world shows in a flight.
use Rattle.std.specs.Prelude.{◌≡◌, ℕ, true, List}
use Rattle.exb_model.specs.Tree.{Shape, is_external}
use Rattle.exb_model.specs.Setup.{Limits}
use Rattle.exb_model.specs.History.{Basis, History}
use Rattle.exb_learn.specs.Histories.{table_after}
use Rattle.exb_world_spec.specs.Worlds.{World, Up, Down, Left, left_at}
use Rattle.exb_world_spec.specs.Runs.Simulation.{system_of, IsSound}
use Rattle.exb_flight.specs.Flight.{Flight}
use Rattle.exb_flight.specs.FlightFacts.{Facts}
use Rattle.exb_flight.specs.Tokens.{Thins, items_on}

-- The machine beside the tables is that of the flight, and so are the words on each link, but for tokens of words that
-- were taken or lost. What happened and what has left each external port are the same; and what was learned is of what
-- happened.
pub record Shows (t : Shape) (i : Basis) (w : World) (h : History) (gone : List Left) (f : Flight) : Type 0 where
  pub system : f.system ≡ system_of w
  pub down : (n : ℕ) → Thins (items_on t w.control.held Down n (w.down n)) (f.down n)
  pub up : (n : ℕ) → Thins (items_on t w.control.held Up n (w.up n)) (f.up n)
  pub history : f.history ≡ h
  pub left : (q : ℕ) → is_external t q ≡ true → f.left q ≡ left_at q gone
  pub learned : w.table ≡ table_after i h

-- A world after a history, of which so much has left: it is sound, and shows in a flight of which all facts hold.
pub record Stood (t : Shape) (l : Limits) (i : Basis) (w : World) (h : History) (gone : List Left) : Type 0 where
  pub sound : IsSound t l w
  pub flight : Flight
  pub facts : Facts t i flight
  pub shows : Shows t i w h gone flight
