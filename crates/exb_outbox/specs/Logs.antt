-- The lines that a log gathers.
use Rattle.std.specs.Prelude.{ℕ, Bool, List, map, filter}
use Rattle.exb_model.specs.Traces.{TraceLine, Out}
use Rattle.exb_model.specs.Tree.{device, port_number}

-- these lines, where a trace is kept, and else none
abbrev pub if_tracing : Bool → List TraceLine → List TraceLine
if_tracing tracing lines = filter (λ line. tracing) lines

-- the lines of a frame that goes out by these ports
abbrev pub row_outs : List ℕ → List ℕ → List TraceLine
row_outs frame ports = map (λ q. Out (device q) (port_number q) frame) ports
