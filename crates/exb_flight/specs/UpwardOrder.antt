-- The upward words of a port: they come to the bridge in the order in which they arrived, each once.
use Rattle.std.specs.Prelude.{◌≡◌, ℕ, zero, suc, ◌==◌, ◌++◌, true, List, [], ◌∷◌, nat_lt, if◌then◌else◌}
use Rattle.exb_model.specs.Tree.{Shape, device, on, is_extended}
use Rattle.exb_model.specs.Setup.{Limits}
use Rattle.exb_model.specs.History.{Basis}
use Rattle.exb_control_spec.specs.Runs.InitialMachine.{MayBegin}
use Rattle.exb_control_spec.specs.Runs.PlannedChanges.{IsSetting}
use Rattle.exb_flight.specs.Items.{Word, Item, words_of}
use Rattle.exb_flight.specs.Flight.{Flight, Stamp, Step, Arrive, CarryIn, tables_of, stepped}
use Rattle.exb_flight.specs.AllowedSteps.{run, Runs}
use Rattle.exb_flight.specs.FlightFacts.{beginning}

abbrev pub of_port : ℕ → List Word → List Word
of_port r [] = []
of_port r (f ∷ fs) = if f.port == r then f ∷ of_port r fs else of_port r fs

unfoldable pub waiting_up : Shape → (ℕ → List Item) → ℕ → ℕ → ℕ → List Word
waiting_up s up r zero p = of_port r (words_of (up (device p)))
waiting_up s up r (suc d) p =
    (if nat_lt (on s (device p)) 64 then [] else waiting_up s up r d (on s (device p))) ++ of_port r
    (words_of (up (device p)))

-- the upward words of port r, from the link nearest the bridge on
unfoldable pub waiting : Shape → (ℕ → List Item) → ℕ → List Word
waiting s up r = waiting_up s up r 64 r

-- the word that a frame becomes
abbrev pub word_of : Stamp → List ℕ → Word
word_of p g = record { bytes = g; port = p.port; index = p.index; moment = p.moment }

-- the words of port r that arrive in a step, and those that come to the bridge
abbrev pub arrived_in : Flight → Step → ℕ → List Word
arrived_in w (Arrive p g) r = if nat_lt 0 ((tables_of w).own p.port) then of_port r (word_of p g ∷ []) else []
arrived_in w _ r = []

abbrev pub taken_in : Step → ℕ → List Word
taken_in (CarryIn n f) r = of_port r (f ∷ [])
taken_in _ r = []

abbrev pub arrived_over : Shape → Limits → Basis → Flight → List Step → ℕ → List Word
arrived_over s l i w [] r = []
arrived_over s l i w (x ∷ xs) r = arrived_in w x r ++ arrived_over s l i (stepped s l i w x) xs r

abbrev pub taken_over : List Step → ℕ → List Word
taken_over [] r = []
taken_over (x ∷ xs) r = taken_in x r ++ taken_over xs r

-- Over each run, the words of a port that came to the bridge, followed by those on the links from the bridge down, are
-- those that arrived there, in order.
abbrev pub TakenInOrder : Type 0
TakenInOrder =
    (s : Shape) (l : Limits) (i : Basis) (xs : List Step) → IsSetting s l → MayBegin s l i.start →
    let w = beginning s l i.start in
    Runs s l i w xs → (r : ℕ) → is_extended s r ≡ true → taken_over xs r ++ waiting s (run s l i w xs).up r
    ≡ arrived_over s l i w xs r
