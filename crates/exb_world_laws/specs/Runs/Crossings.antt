-- What leaves for one event, and that it may arrive elsewhere.
use Rattle.std.specs.Prelude.{◌≡◌, ℕ, ◌<◌, ◌≤◌, ◌^◌, true, List, [], ◌∷◌, length, All}
use Rattle.exb_model.specs.declared.command.Command.{Command}
use Rattle.exb_model.specs.declared.setup.Setup.{Setup}
use Rattle.exb_model.specs.declared.arrival.Arrival.{Arrival}
use Rattle.exb_model.specs.Setup.{IsValid, shape_of, limits_of}
use Rattle.exb_model.specs.Tree.{Shape, is_external}
use Rattle.exb_world_spec.specs.AllowedSteps.{Can, IsSettled}
use Rattle.exb_world_spec.specs.Settling.{run}
use Rattle.exb_world_spec.specs.Worlds.{World, Step, Arrive, Order, Left, left_at}
use Rattle.exb_world_spec.specs.Runs.SessionLaws.{IsMove}
use Rattle.exb_world_spec.specs.Runs.Sessions.{Each}
use Rattle.exb_world_spec.specs.Runs.ReachedWorlds.{HasVid, MayTakeAll, beginning, reached_by}

-- Steps of a world that a run of a valid setup reaches and that is settled: it is given something, and settles by
-- moves.
pub record IsAlone (s : Setup) (before : List Step) (step : Step) (moves : List Step) : Type 0 where
  pub valid : IsValid s
  pub vids : All HasVid s.start
  pub reached : MayTakeAll (shape_of s) (limits_of s) (beginning s) before
  pub settled : IsSettled (shape_of s) (reached_by s before)
  pub may : MayTakeAll (shape_of s) (limits_of s) (reached_by s before) (step ∷ moves)
  pub moves_alone : Each IsMove moves
  pub after : IsSettled (shape_of s) (run (shape_of s) (limits_of s) (step ∷ moves) (reached_by s before)).world

abbrev pub left_by : Setup → List Step → Step → List Step → List Left
left_by s before step moves = (run (shape_of s) (limits_of s) (step ∷ moves) (reached_by s before)).left

-- it left an external port, at the moment of an arrival, and is short
pub record MayCross (t : Shape) (a : Arrival) (x : Left) : Type 0 where
  pub port : is_external t x.port ≡ true
  pub moment : x.moment ≡ a.moment
  pub short : length x.bytes ≤ 9220

-- So it is of all that leaves for an arrival, and each port sends at most one frame.
pub record AreCrossing (t : Shape) (a : Arrival) (left : List Left) : Type 0 where
  pub each : Each (MayCross t a) left
  pub few : (q : ℕ) → is_external t q ≡ true → length (left_at q left) ≤ 1

abbrev pub LeavesMayCross : Type 0
LeavesMayCross = (s : Setup) (before : List Step) (a : Arrival) (moves : List Step) → IsAlone s before (Arrive a) moves
    → AreCrossing (shape_of s) a (left_by s before (Arrive a) moves)

abbrev pub CommandsSendNothing : Type 0
CommandsSendNothing = (s : Setup) (before : List Step) (c : Command) (moves : List Step)
    → IsAlone s before (Order c) moves → left_by s before (Order c) moves ≡ []

-- It may arrive at an external port of another world, with the next index.
abbrev pub CrossingsMayArrive : Type 0
CrossingsMayArrive =
    (t : Shape) (w : World) (p moment : ℕ) (bytes : List ℕ) → is_external t p ≡ true → w.next p < 2 ^ 63
    → length bytes ≤ 9220 →
    Can t w (Arrive (record { port = p; index = w.next p; moment = moment; bytes = bytes }))
