-- The wired ports of a bridge, as the code keeps them.
use Rattle.std.specs.Prelude.{ℕ, ◌==◌, if◌then◌else◌, List, [], ◌∷◌, Option, Some, None, flat_map}
use Rattle.exb_world_spec.specs.Worlds.{Left, left_at}
use Rattle.exb_net_spec.specs.declared.wires.End.{End}
use Rattle.exb_net_spec.specs.declared.wires.Wire.{Wire}
use Rattle.exb_net_spec.specs.Nets.{far_end}
use Rattle.exb_net_spec.specs.NetHistory.{Crossing, crosses}
use Rattle.exb_net.specs.declared.wired_ports.WiredPort.{WiredPort}

-- a port, with the index of its next frame, where something is wired to it
abbrev pub end_at : ℕ → ℕ → Option End → List WiredPort
end_at next q None = []
end_at next q (Some e) = record { port = q; far = e; next = next } ∷ []

-- those of bridge b among these ports
unfoldable pub ends_over : List Wire → ℕ → (ℕ → ℕ) → List ℕ → List WiredPort
ends_over ws b next qs = flat_map (λ q. end_at (next q) q (far_end ws b q)) qs

-- the index of a port's next frame
abbrev pub next_in : List WiredPort → ℕ → ℕ
next_in [] p = 1
next_in (x ∷ xs) p = if x.port == p then x.next else next_in xs p

-- with another one at port p
abbrev pub with_next : ℕ → ℕ → WiredPort → WiredPort
with_next p next x = if x.port == p then record x { next = next } else x

-- what of that which left goes over their wires
abbrev pub sent_over : List Left → List WiredPort → List Crossing
sent_over left ends = flat_map (λ (x : WiredPort). crosses (Some x.far) (left_at x.port left)) ends
