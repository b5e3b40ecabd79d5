-- Sets of ports.
use Rattle.std.specs.Prelude.{ℕ, Bool, List, filter}
use Rattle.std.specs.List.{range_with_len}
use Rattle.exb_model.specs.declared.port_set.PortSet.{PortSet}
use Rattle.exb_model.specs.PortBits.{has_port}

-- the port is in the set
abbrev pub port_in : PortSet → ℕ → Bool
port_in s q = has_port s.words q

-- the numbers below n, in order
unfoldable pub below : ℕ → List ℕ
below n = range_with_len 0 n

-- the numbers of all ports, in order
abbrev pub all_ports : List ℕ
all_ports = below 4160

-- the ports of a set, in order
unfoldable pub ports_of : PortSet → List ℕ
ports_of s = filter (port_in s) all_ports
