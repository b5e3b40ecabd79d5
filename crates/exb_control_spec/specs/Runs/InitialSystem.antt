-- The machine and the tables of all extenders to begin with.
use Rattle.std.specs.Prelude.{ℕ, None, slice_index}
use Rattle.exb_model.specs.Tree.{Shape}
use Rattle.exb_model.specs.Setup.{Limits}
use Rattle.exb_model.specs.Configuration.{Bridge}
use Rattle.exb_csp.specs.Execution.{ExtenderTables}
use Rattle.exb_csp.specs.PortMasks.{powered_on}
use Rattle.exb_control_spec.specs.InitialState.{first_state}
use Rattle.exb_control_spec.specs.Runs.Systems.{System}

-- each extender at power-on
abbrev pub tables_at_power_on : Shape → ℕ → ExtenderTables
tables_at_power_on t n = powered_on (slice_index t.ports n)

-- nothing was asked of any extender
abbrev pub first_system : Shape → Limits → Bridge → System
first_system t l b = record { state = first_state t l b; tables = tables_at_power_on t; answer = None }
