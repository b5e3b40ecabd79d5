-- What the tables carry, also in the middle of a change.
use Rattle.std.specs.Prelude.{◌≡◌, ℕ, ◌<◌, ◌==◌, true, bytes_eq, List, Some}
use Rattle.std.specs.List.{list_any}
use Rattle.exb_model.specs.ExtenderForwarding.{Tables}
use Rattle.exb_model.specs.Carriage.{Carries}
use Rattle.exb_model.specs.Tree.{Shape, IsTree, is_under}
use Rattle.exb_model.specs.Configuration.{Bridge}
use Rattle.exb_model.specs.Refusals.{sets_at}
use Rattle.exb_control_spec.specs.Plans.LaidRows.{IsLaid}
use Rattle.exb_csp.specs.AllTables.{tables_at}
use Rattle.exb_model.specs.Lists.{is_listed}
use Rattle.exb_control_spec.specs.Plans.HeldNumbers.{Held, channel_in, group_in, numbers_in}
use Rattle.exb_control_spec.specs.Runs.Systems.{System}
use Rattle.exb_control_spec.specs.Runs.MachineInvariant.{Stands}
use Rattle.exb_control_spec.specs.Runs.PlannedChanges.{planning}

-- Of each set of a configuration the rows are laid for its group, and of each present port for its channel, which is
-- the port's own.
pub record IsLaidFor (t : Shape) (b : Bridge) (h : Held) (all : Tables) : Type 0 where
  pub groups : (k g : ℕ) (set : List ℕ) → k < 64 → list_any (bytes_eq set) (sets_at t k b) ≡ true
      → group_in h k set ≡ Some g → IsLaid t all k (is_listed set) g
  pub own : (k q c : ℕ) → is_under t k q ≡ true → b.present q ≡ true → channel_in h k q ≡ Some c → all.own q ≡ c
  pub channels : (k q c : ℕ) → is_under t k q ≡ true → b.present q ≡ true → channel_in h k q ≡ Some c
      → IsLaid t all k (λ x. x == q) c

-- At every moment, whatever requests were executed, it is so for the configuration in force.
abbrev pub LaidMidway : Type 0
LaidMidway = (t : Shape) (y : System) → IsTree t → Stands (planning t) y
    → IsLaidFor t y.state.bridge y.state.held (tables_at y.tables)

-- At every moment the tables carry what the configuration in force uses.
abbrev pub CarriesMidway : Type 0
CarriesMidway = (t : Shape) (y : System) → IsTree t → Stands (planning t) y
    → Carries t (tables_at y.tables) y.state.bridge (numbers_in y.state.held)
