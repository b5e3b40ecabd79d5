-- The parts of sources that have a port, below some bridge ports.
use Rattle.std.specs.Prelude.{◌≡◌, ℕ, ◌++◌, Bool, List, not, filter, flat_map, map}
use Rattle.exb_model.specs.Tree.{Shape}
use Rattle.exb_model.specs.Configuration.{Bridge}
use Rattle.exb_model.specs.Refusals.{Source, is_empty_set}
use Rattle.exb_control_spec.specs.declared.plan.set_at.SetAt.{SetAt}
use Rattle.exb_control_spec.specs.Plans.Sets.{PortsAt, seen}
use Rattle.exb_control_spec.specs.Plans.TouchedParts.{parts_where}

abbrev pub has_ports : PortsAt → Bool
has_ports s = not (is_empty_set s.ports)

-- the parts of sources that have a port, below the bridge ports, from 0, that pass a test
unfoldable pub some_parts : Shape → Bridge → (ℕ → Bool) → List Source → List PortsAt
some_parts t b here xs = filter has_ports (flat_map (parts_where t b here) xs)

-- they are put at the end
abbrev pub Adds : Shape → Bridge → (ℕ → Bool) → List Source → List SetAt → List SetAt → Type 0
Adds t b here xs old new = map seen new ≡ map seen old ++ some_parts t b here xs
