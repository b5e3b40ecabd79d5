-- Wires between bridges, each end looked at in its turn.
use Rattle.std.specs.Prelude.{ℕ, ◌+◌, ◌==◌, ◌||◌, ◌&&◌, Bool, not, nat_lt, if◌then◌else◌, List, [], ◌∷◌, ◌++◌, Option, Some, None, Result, Ok, Err, codes}
use Rattle.std.specs.List.{list_any}
use Rattle.std.specs.Str.{bytes_eq}
use Rattle.exb_model.specs.Tree.{is_external}
use Rattle.exb_toml_keys.specs.declared.faults.KeyFault.TheVariants as fault
use Rattle.exb_toml_keys.specs.Faults.{Refusal, at, ◌>>=◌, in_element}
use Rattle.exb_net_spec.specs.declared.wires.End.{End}
use Rattle.exb_net_spec.specs.declared.wires.Wire.{Wire}
use Rattle.exb_net_spec.specs.Nets.{ends_of, is_at}
use Rattle.exb_topology.specs.ElementChecks.{each_ok, refuse}
use Rattle.exb_net_file.specs.declared.end_names.EndName.{EndName}
use Rattle.exb_net_file.specs.declared.elements.NetWire.{NetWire}
use Rattle.exb_net_file.specs.declared.members.NetMember.{NetMember}
use Rattle.exb_net_file.specs.Members.{tree_in, ports_together, files_ok}

-- ---- ends

-- the first bridge of that name, counted from i
unfoldable pub member_from : ℕ → List ℕ → List NetMember → Option (ℕ × NetMember)
member_from i name [] = None
member_from i name (m ∷ ms) = if bytes_eq m.name name then Some (i, m) else member_from (i + 1) name ms

-- one of these ends is that port
abbrev pub is_taken : List End → ℕ → ℕ → Bool
is_taken ends b p = list_any (λ e. is_at e b p) ends

-- a port of the bridge has a capture
abbrev pub has_capture : NetMember → ℕ → Bool
has_capture m p = list_any (λ capture. capture.port == p) m.topology.captures

-- a port of a bridge, after these ends: it is external, and neither an end nor a capture has it
unfoldable pub port_free : NetMember → List End → List ℕ → End → Result (Unit {0}) Refusal
port_free m taken key e = do
  _there ← refuse (not (is_external (tree_in m) e.port)) fault.UnknownPort key
  refuse (is_taken taken e.bridge e.port || has_capture m e.port) fault.SharedPort key

abbrev pub end_of_member : List End → List ℕ → ℕ → Option (ℕ × NetMember) → Result End Refusal
end_of_member taken key p None = Err (at fault.Name key)
end_of_member taken key p (Some (b, m)) = port_free m taken key (record { bridge = b; port = p }) >>= λ _.
    Ok (record { bridge = b; port = p })

unfoldable pub end_in : List NetMember → List End → List ℕ → EndName → Result End Refusal
end_in ms taken key e = end_of_member taken key e.port (member_from 0 e.bridge ms)

-- ---- loops

-- with one wire more: what was joined, and what was joined to one of its ends, with what was joined to the other
abbrev pub with_wire : (ℕ → ℕ → Bool) → Wire → ℕ → ℕ → Bool
with_wire joined x b c =
    joined b c || ((joined b x.a.bridge && joined x.b.bridge c) || (joined b x.b.bridge && joined x.a.bridge c))

unfoldable pub joined_over : (ℕ → ℕ → Bool) → List Wire → ℕ → ℕ → Bool
joined_over joined [] = joined
joined_over joined (x ∷ xs) = joined_over (with_wire joined x) xs

-- bridges are the same, or these wires join them
abbrev pub are_joined : List Wire → ℕ → ℕ → Bool
are_joined xs = joined_over (λ b c. b == c) xs

-- ---- wires

abbrev pub wire_key : ℕ → List ℕ → List ℕ
wire_key i end = in_element (codes "wire") i ++ end

-- a wire after those before it
unfoldable pub wire_in : List NetMember → List Wire → ℕ → NetWire → Result Wire Refusal
wire_in ms before i w = do
  a ← end_in ms (ends_of before) (wire_key i (codes "a")) w.a
  b ← end_in ms (ends_of before ++ a ∷ []) (wire_key i (codes "b")) w.b
  _loop ← refuse (are_joined before a.bridge b.bridge) fault.Loop (wire_key i (codes "a"))
  Ok (record { a = a; b = b })

-- those before, and the rest from index i on
unfoldable pub wires_from : List NetMember → List Wire → ℕ → List NetWire → Result (List Wire) Refusal
wires_from ms before i [] = Ok before
wires_from ms before i (w ∷ ws) = wire_in ms before i w >>= λ x. wires_from ms (before ++ x ∷ []) (i + 1) ws

-- The wires of a net, once all topologies are read: the ports together, then the captures of each bridge, then the
-- wires in order.
unfoldable pub wires_of : List NetMember → List NetWire → Result (List Wire) Refusal
wires_of ms ws = do
  _ports ← refuse (nat_lt 4160 (ports_together ms)) fault.Range (codes "bridge")
  _files ← each_ok (files_ok ms) ms 0 ms
  wires_from ms [] 0 ws
