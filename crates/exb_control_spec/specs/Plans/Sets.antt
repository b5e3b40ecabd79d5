-- The sets of ports that need a group, below all bridge ports.
use Rattle.std.specs.Prelude.{◌≡◌, ℕ, ◌+◌, ◌==◌, ◌&&◌, ◌||◌, ◌<◌, Bool, if◌then◌else◌, List, [], ◌∷◌, ◌++◌, flat_map, filter, fold, map, bytes_eq}
use Rattle.std.specs.List.{list_any}
use Rattle.exb_model.specs.Ports.{ports_of}
use Rattle.exb_model.specs.Tree.{Shape}
use Rattle.exb_model.specs.Configuration.{Bridge}
use Rattle.exb_model.specs.Refusals.{Source, sources, part, without_isolated, bridge_ports, is_empty_set, sets_at}
use Rattle.exb_control_spec.specs.declared.plan.set_at.SetAt.{SetAt}

-- ports below a bridge port, which is numbered from 1
pub record PortsAt : Type 0 where
  pub bridge_port : ℕ
  pub ports : List ℕ

-- below bridge port k, the part of a source, followed by the part without its isolated ports
abbrev pub parts_of : Shape → Bridge → Source → ℕ → List PortsAt
parts_of t b x k =
    record { bridge_port = k + 1; ports = part t k b x }
    ∷ record { bridge_port = k + 1; ports = without_isolated b (part t k b x) } ∷ []

-- below each bridge port in order
unfoldable pub parts_below : Shape → Bridge → Source → List PortsAt
parts_below t b x = flat_map (parts_of t b x) bridge_ports

abbrev pub is_same_set : PortsAt → PortsAt → Bool
is_same_set a c = a.bridge_port == c.bridge_port && bytes_eq a.ports c.ports

-- one set more, if it isn't empty and isn't there yet
abbrev pub with_set_at : List PortsAt → PortsAt → List PortsAt
with_set_at sets set = if is_empty_set set.ports || list_any (is_same_set set) sets then sets else sets ++ set ∷ []

-- The sets of a configuration, each once, where it comes first: in the order of their sources, within a
-- source by bridge port, and there the part before the part without its isolated ports.
unfoldable pub sets_of : Shape → Bridge → List PortsAt
sets_of t b = fold with_set_at [] (flat_map (parts_below t b) (sources b))

-- what an entry of the answer says
abbrev pub seen : SetAt → PortsAt
seen s = record { bridge_port = s.bridge_port; ports = ports_of s.set }

-- Of each bridge port they are its sets, in their order.
abbrev pub SetsOfEach : Type 0
SetsOfEach =
    (t : Shape) (b : Bridge) (k : ℕ) → k < 64 → map (λ s. s.ports) (filter (λ s. s.bridge_port == k + 1) (sets_of t b))
    ≡ sets_at t k b
