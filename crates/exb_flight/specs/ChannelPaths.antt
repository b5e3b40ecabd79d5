-- What holds of tables at every moment besides words: each pair is at a port that has a channel, and a cascade port
-- that has one has its channel's rows all along the way.
use Rattle.std.specs.Prelude.{◌≡◌, ◌≢◌, ◌⊎◌, ℕ, ◌<◌, ◌≤◌, ◌==◌, true, false, [], None}
use Rattle.exb_model.specs.Tree.{Shape, device, on, trunk, is_external, is_extended, is_cascade_under}
use Rattle.exb_csp.specs.Execution.{ExtenderTables}
use Rattle.exb_control_spec.specs.Plans.LaidRows.{IsLaid}
use Rattle.exb_csp.specs.AllTables.{tables_at}
use Rattle.exb_control_spec.specs.Decisions.{channel_of}
use Rattle.exb_control_spec.specs.Runs.Systems.{System}
use Rattle.exb_control_spec.specs.Runs.MachineInvariant.{Stands}
use Rattle.exb_control_spec.specs.Runs.PlannedChanges.{planning}
use Rattle.exb_flight.specs.Tree.{Over, IsDeep}

abbrev pub HasChannels : Shape → (ℕ → ExtenderTables) → Type 0
HasChannels s all = (e p : ℕ) → IsDeep s p → (tables_at all).pair e p ≡ true → 0 < (tables_at all).own p

-- so a control word with the channel of such a port comes to the extender that hangs there
abbrev pub WaysAreLaid : Shape → (ℕ → ExtenderTables) → Type 0
WaysAreLaid s all = (k c : ℕ) → k < 64 → is_cascade_under s k c ≡ true → 0 < (tables_at all).own c
    → IsLaid s (tables_at all) k (λ x. x == c) ((tables_at all).own c)

-- an external port has a channel only where each port on which an extender above it hangs has one
abbrev pub TopsAreLaid : Shape → (ℕ → ExtenderTables) → Type 0
TopsAreLaid s all = (q : ℕ) → is_extended s q ≡ true → 0 < (tables_at all).own q → (n : ℕ) → Over s n (device q)
    → 64 ≤ on s n → 0 < (tables_at all).own (on s n)

-- At every moment the tables have no more than what is held: an own channel is the one that the bridge holds for the
-- port, a number that has a pair is held at its trunk, and an external port with a channel isn't made a cascade port.
pub record IsBounded (s : Shape) (y : System) : Type 0 where
  pub own : (q : ℕ) → IsDeep s q → 0 < (tables_at y.tables).own q → channel_of s y.state.held q
      ≡ (tables_at y.tables).own q
  pub pair : (e q : ℕ) → IsDeep s q → (tables_at y.tables).pair e q ≡ true
      → (y.state.held.port (trunk s (device q)) e ≢ None) ⊎ (y.state.held.set (trunk s (device q)) e ≢ [])
  pub kind : (q : ℕ) → IsDeep s q → is_external s q ≡ true → 0 < (tables_at y.tables).own q
      → (tables_at y.tables).cascade q ≡ false

abbrev pub BoundedMidway : Type 0
BoundedMidway = (s : Shape) (y : System) → Stands (planning s) y → IsBounded s y
