-- The topology of a file, or its first fault.
use Rattle.std.specs.Prelude.{ℕ, ◌+◌, ◌-◌, false, List, [], ◌∷◌, ◌++◌, Option, Some, None, Result, Ok, map, flat_map}
use Rattle.std.specs.List.{range_with_len}
use Rattle.exb_model.specs.declared.setup.ExtenderSetup.{ExtenderSetup}
use Rattle.exb_model.specs.declared.setup.Setup.{Setup}
use Rattle.exb_model.specs.declared.setup.Verdict.{Verdict}
use Rattle.exb_model.specs.Tree.{Shape, is_external}
use Rattle.exb_model.specs.Setup.{shape_of}
use Rattle.exb_toml_keys.specs.Faults.{Refusal, ◌>>=◌}
use Rattle.exb_topology_tables.specs.declared.elements.PortElement.{PortElement}
use Rattle.exb_topology_tables.specs.declared.elements.VlanElement.{VlanElement}
use Rattle.exb_topology_tables.specs.declared.elements.StaticElement.{StaticElement}
use Rattle.exb_topology_tables.specs.declared.elements.Named.{Named}
use Rattle.exb_topology_tables.specs.declared.commands.Action.{Action}
use Rattle.exb_topology_tables.specs.declared.commands.Action.TheVariants as does
use Rattle.exb_topology_tables.specs.declared.commands.CommandElement.{CommandElement}
use Rattle.exb_topology_tables.specs.declared.tables.TopologyTables.{TopologyTables}
use Rattle.exb_topology_tables.specs.Tables.{tables_of}
use Rattle.exb_topology.specs.declared.topology.Topology.{Topology}
use Rattle.exb_topology.specs.Trees.{tree_ok}
use Rattle.exb_topology.specs.Checks.{listed, ports_ok}
use Rattle.exb_topology.specs.CommandViews.{Seen, set_vlan, put_member, take_member, set_pvid, set_accept, set_filter, set_isolated, put_static, take_static, go_up, go_down, seen, TimedSeen, timed_view}

-- ---- what the start sets: the ports in file order, then the VLANs, then the static entries
abbrev pub port_start : PortElement → List Seen
port_start p = set_pvid p.name p.pvid ∷ set_accept p.name p.accept ∷ set_filter p.name p.filter
    ∷ set_isolated p.name p.isolated ∷ []

-- each VLAN from the first to the last
abbrev pub vlan_start : Shape → VlanElement → List Seen
vlan_start t v = map (λ n. set_vlan n (listed t v.tagged) (listed t v.untagged))
    (range_with_len v.vid (v.last + 1 - v.vid))

-- without a key `vlan`, VLAN 1 holds every external port untagged
abbrev pub vlans_start : Shape → Option (List VlanElement) → List Seen
vlans_start t None = set_vlan 1 (λ q. false) (is_external t) ∷ []
vlans_start t (Some vs) = flat_map (vlan_start t) vs

abbrev pub static_start : Shape → StaticElement → Seen
static_start t s = put_static s.vid s.address (listed t s.ports)

abbrev pub start_seen : Shape → TopologyTables → List Seen
start_seen t file = flat_map port_start file.ports ++ vlans_start t file.vlans ++ map (static_start t) file.statics

-- ---- commands
abbrev pub deed : Shape → Action → Seen
deed t (does.Vlan v tagged untagged) = set_vlan v (listed t tagged) (listed t untagged)
deed t (does.Member v p kind) = put_member v p kind
deed t (does.Unmember v p) = take_member v p
deed t (does.Pvid p v) = set_pvid p v
deed t (does.Accept p types) = set_accept p types
deed t (does.Filter p on) = set_filter p on
deed t (does.Isolate p on) = set_isolated p on
deed t (does.Static v m ports) = put_static v m (listed t ports)
deed t (does.Unstatic v m) = take_static v m
deed t (does.Up p) = go_up p
deed t (does.Down p) = go_down p

abbrev pub command_seen : Shape → CommandElement → TimedSeen
command_seen t c = record { at = c.at; command = deed t c.action; fate = c.fate }

-- ---- the whole

-- a topology, with sets of ports as tests
pub record TopologySeen : Type 0 where
  pub ports : ℕ
  pub extenders : List ExtenderSetup
  pub channels : ℕ
  pub groups : ℕ
  pub ageing : ℕ
  pub start : List Seen
  pub commands : List TimedSeen
  pub fate : List Verdict
  pub captures : List Named
  pub prefix : List ℕ

abbrev pub topology_view : Topology → TopologySeen
topology_view t =
    record {
      ports = t.setup.ports;
      extenders = t.setup.extenders;
      channels = t.setup.channels;
      groups = t.setup.groups;
      ageing = t.setup.ageing;
      start = map seen t.setup.start;
      commands = map timed_view t.commands;
      fate = t.fate;
      captures = t.captures;
      prefix = t.prefix;
    }

-- the setup of the tables of a file, with nothing at its start yet
abbrev pub bare : TopologyTables → Setup
bare file =
    record {
      ports = file.bridge.ports;
      extenders = file.extenders;
      channels = file.bridge.channels;
      groups = file.bridge.groups;
      ageing = file.bridge.ageing;
      start = [];
    }

abbrev pub topology_seen : Shape → TopologyTables → TopologySeen
topology_seen t file =
    record {
      ports = file.bridge.ports;
      extenders = file.extenders;
      channels = file.bridge.channels;
      groups = file.bridge.groups;
      ageing = file.bridge.ageing;
      start = start_seen t file;
      commands = map (command_seen t) file.commands;
      fate = file.fate;
      captures = file.captures;
      prefix = file.bridge.out;
    }

-- the second and the third pass over the tables
unfoldable pub resolved : TopologyTables → Result TopologySeen Refusal
resolved file = do
  _tree ← tree_ok (bare file)
  _ports ← ports_ok (shape_of (bare file)) file
  Ok (topology_seen (shape_of (bare file)) file)

-- the topology of a file: the first pass, and then the others
unfoldable pub topology_of : List ℕ → Result TopologySeen Refusal
topology_of file = tables_of file >>= resolved
