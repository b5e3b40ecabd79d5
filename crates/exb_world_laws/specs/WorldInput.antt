-- What was given to a world so far: arrivals and commands, in order.
use Rattle.std.specs.Prelude.{ℕ, ◌==◌, if◌then◌else◌, List, [], ◌∷◌, map}
use Rattle.exb_model.specs.declared.command.Command.{Command}
use Rattle.exb_model.specs.declared.arrival.Arrival.{Arrival}
use Rattle.exb_model.specs.History.{Basis}
use Rattle.exb_world_spec.specs.Worlds.{Step, Arrive, Order}

pub data Given : Type 0 where
  Came : (arrival : Arrival) → Given
  Told : (command : Command) → Given

-- what a step gives
abbrev pub given_by : Step → List Given
given_by (Arrive a) = Came a ∷ []
given_by (Order c) = Told c ∷ []
given_by _ = []

-- the arrivals of port p, and the commands
abbrev pub arrivals_at : ℕ → List Given → List Arrival
arrivals_at p [] = []
arrivals_at p (Came a ∷ g) = if a.port == p then a ∷ arrivals_at p g else arrivals_at p g
arrivals_at p (Told c ∷ g) = arrivals_at p g

-- all arrivals
abbrev pub arrivals_of : List Given → List Arrival
arrivals_of [] = []
arrivals_of (Came a ∷ g) = a ∷ arrivals_of g
arrivals_of (Told c ∷ g) = arrivals_of g

abbrev pub commands_of : List Given → List Command
commands_of [] = []
commands_of (Came a ∷ g) = commands_of g
commands_of (Told c ∷ g) = c ∷ commands_of g

abbrev pub indices_of : List Arrival → List ℕ
indices_of xs = map (λ (a : Arrival). a.index) xs

-- the moments and frames of the arrivals of port p
abbrev pub records_at : List Given → ℕ → List (ℕ × List ℕ)
records_at g p = map (λ (a : Arrival). (a.moment, a.bytes)) (arrivals_at p g)

-- histories take their commands from what was given
abbrev pub basis_with : Basis → List Given → Basis
basis_with i g = record i { commands = commands_of g }
