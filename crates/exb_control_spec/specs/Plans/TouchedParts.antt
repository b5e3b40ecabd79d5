-- The parts that a command touches: those of the VLANs and static entries which it changes, below the bridge ports
-- where it changes any.
use Rattle.std.specs.Prelude.{ℕ, ◌==◌, ◌&&◌, Bool, true, List, [], Option, Some, None, filter, find, flat_map, count_by}
use Rattle.exb_model.specs.declared.rules.StaticAt.{StaticAt}
use Rattle.exb_model.specs.declared.command.Command.{Command}
use Rattle.exb_model.specs.declared.command.Command.TheVariants as command
use Rattle.exb_model.specs.Ports.{port_in}
use Rattle.exb_model.specs.Tree.{Shape, is_under}
use Rattle.exb_model.specs.Configuration.{Bridge, after, is_for}
use Rattle.exb_model.specs.Refusals.{Source, sources, both_kinds, is_kind, bridge_ports}
use Rattle.exb_control_spec.specs.Plans.Sets.{PortsAt, parts_of, parts_below, is_same_set}

-- all parts of a configuration, in order, also empty ones
unfoldable pub parts_of_all : Shape → Bridge → List PortsAt
parts_of_all t b = flat_map (parts_below t b) (sources b)

-- how often a set stands among parts
abbrev pub uses_in : List PortsAt → PortsAt → ℕ
uses_in parts s = count_by (is_same_set s) parts

-- how often it is a part of a configuration
abbrev pub uses_of : Shape → Bridge → PortsAt → ℕ
uses_of t b s = uses_in (parts_of_all t b) s

-- ---- touched sources
abbrev pub sources_of_entry : StaticAt → List Source
sources_of_entry e = both_kinds e.vid (port_in e.ports)

abbrev pub sources_of_vlan : Bridge → ℕ → List Source
sources_of_vlan b v = filter (λ (x : Source). x.vid == v) (sources b)

-- the port is one of the source's members
abbrev pub has_port : Bridge → ℕ → Source → Bool
has_port b p x = x.among p && is_kind x.kind (b.member x.vid p)

abbrev pub sources_with : Bridge → ℕ → List Source
sources_with b p = filter (has_port b p) (sources b)

abbrev pub sources_if : Option StaticAt → List Source
sources_if None = []
sources_if (Some e) = sources_of_entry e

-- before the command
abbrev pub touched_before : Command → Bridge → List Source
touched_before (command.Vlan v tagged untagged) b = sources_of_vlan b v
touched_before (command.Member v p kind) b = sources_of_vlan b v
touched_before (command.Unmember v p) b = sources_of_vlan b v
touched_before (command.Pvid p v) b = []
touched_before (command.Accept p types) b = []
touched_before (command.Filter p on) b = []
touched_before (command.Isolate p on) b = sources_with b p
touched_before (command.Static v m ports) b = sources_if (find (is_for v m.0) b.statics)
touched_before (command.Unstatic v m) b = flat_map sources_of_entry (filter (is_for v m.0) b.statics)
touched_before (command.Up p) b = sources_with b p
touched_before (command.Down p) b = sources_with b p

-- and after it
abbrev pub touched_after : Command → Bridge → List Source
touched_after (command.Static v m ports) b = both_kinds v (port_in ports)
touched_after (command.Unstatic v m) b = []
touched_after c b = touched_before c b

-- ---- their parts
-- whether a command may change parts below bridge port k: one about a single port does so only where that port is
abbrev pub touches_below : Shape → Command → ℕ → Bool
touches_below t (command.Vlan v tagged untagged) k = true
touches_below t (command.Member v p kind) k = is_under t k p
touches_below t (command.Unmember v p) k = is_under t k p
touches_below t (command.Pvid p v) k = true
touches_below t (command.Accept p types) k = true
touches_below t (command.Filter p on) k = true
touches_below t (command.Isolate p on) k = is_under t k p
touches_below t (command.Static v m ports) k = true
touches_below t (command.Unstatic v m) k = true
touches_below t (command.Up p) k = is_under t k p
touches_below t (command.Down p) k = is_under t k p

-- the parts of a source below the bridge ports that pass a test, in order
unfoldable pub parts_where : Shape → Bridge → (ℕ → Bool) → Source → List PortsAt
parts_where t b test x = flat_map (parts_of t b x) (filter test bridge_ports)

-- before the command
unfoldable pub parts_before : Shape → Command → Bridge → List PortsAt
parts_before t c b = flat_map (parts_where t b (touches_below t c)) (touched_before c b)

-- and after it
unfoldable pub parts_after : Shape → Command → Bridge → List PortsAt
parts_after t c b = flat_map (parts_where t (after c b) (touches_below t c)) (touched_after c b)
