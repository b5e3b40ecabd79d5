-- The third pass: that ports are external ports of the tree, and that nothing is given twice.
use Rattle.std.specs.Prelude.{ℕ, zero, suc, ◌+◌, ◌-◌, ◌/◌, ◌==◌, ◌&&◌, Bool, true, not, nat_le, List, ◌++◌, Option, Some, None, Result, Ok, codes, map}
use Rattle.std.specs.List.{list_any, list_all}
use Rattle.std.specs.Str.{bytes_eq}
use Rattle.exb_model.specs.Tree.{Shape, is_extender, is_external}
use Rattle.exb_model.specs.Texts.{port_name}
use Rattle.exb_journal.specs.FileNames.{all_outputs, file_name}
use Rattle.exb_toml_keys.specs.declared.faults.KeyFault.TheVariants as fault
use Rattle.exb_toml_keys.specs.declared.text_values.PortPattern.{PortPattern}
use Rattle.exb_toml_keys.specs.declared.text_values.PortPattern.TheVariants as word
use Rattle.exb_toml_keys.specs.Faults.{Refusal, ◌>>=◌, in_table, in_element}
use Rattle.exb_topology_tables.specs.declared.elements.PortElement.{PortElement}
use Rattle.exb_topology_tables.specs.declared.elements.VlanElement.{VlanElement}
use Rattle.exb_topology_tables.specs.declared.elements.StaticElement.{StaticElement}
use Rattle.exb_topology_tables.specs.declared.elements.Named.{Named}
use Rattle.exb_topology_tables.specs.declared.commands.Action.{Action}
use Rattle.exb_topology_tables.specs.declared.commands.Action.TheVariants as does
use Rattle.exb_topology_tables.specs.declared.commands.CommandElement.{CommandElement}
use Rattle.exb_topology_tables.specs.declared.tables.TopologyTables.{TopologyTables}
use Rattle.exb_topology.specs.ElementChecks.{each_ok, refuse}

-- ---- the ports of a list

-- n ports from k on pass
unfoldable pub all_from : (ℕ → Bool) → ℕ → ℕ → Bool
all_from test k zero = true
all_from test k (suc n) = test k && all_from test (k + 1) n

-- the tree has what a word names
abbrev pub is_known : Shape → PortPattern → Bool
is_known t word.All = true
is_known t (word.Whole n) = is_extender t n
is_known t (word.Ports a b) = all_from (is_external t) a (b + 1 - a)

-- a word names port q, which is external
abbrev pub names : Shape → ℕ → PortPattern → Bool
names t q word.All = is_external t q
names t q (word.Whole n) = q / 64 == n && is_external t q
names t q (word.Ports a b) = (nat_le a q && nat_le q b) && is_external t q

-- a word of the list does
abbrev pub listed : Shape → List PortPattern → ℕ → Bool
listed t ws q = list_any (names t q) ws

abbrev pub port_ok : Shape → List ℕ → ℕ → Result (Unit {0}) Refusal
port_ok t key p = refuse (not (is_external t p)) fault.UnknownPort key

abbrev pub words_ok : Shape → List ℕ → List PortPattern → Result (Unit {0}) Refusal
words_ok t key ws = refuse (not (list_all (is_known t) ws)) fault.UnknownPort key

-- ---- each table
abbrev pub port_table_ok : Shape → List PortElement → ℕ → PortElement → Result (Unit {0}) Refusal
port_table_ok t before i p = do
  _there ← port_ok t here p.name
  refuse (list_any (λ q. q.name == p.name) before) fault.Repeat here
  where
    here : List ℕ
    here = in_element (codes "port") i ++ codes "name"

-- two ranges of VLANs have one in common
abbrev pub overlap : VlanElement → VlanElement → Bool
overlap v w = nat_le w.vid v.last && nat_le v.vid w.last

abbrev pub vlan_ok : Shape → List VlanElement → ℕ → VlanElement → Result (Unit {0}) Refusal
vlan_ok t before i v = do
  _tagged ← words_ok t (here ++ codes "tagged") v.tagged
  _untagged ← words_ok t (here ++ codes "untagged") v.untagged
  refuse (list_any (overlap v) before) fault.Repeat (here ++ codes "vid")
  where
    here : List ℕ
    here = in_element (codes "vlan") i

abbrev pub same_entry : StaticElement → StaticElement → Bool
same_entry s f = f.vid == s.vid && bytes_eq f.address.0 s.address.0

abbrev pub static_ok : Shape → List StaticElement → ℕ → StaticElement → Result (Unit {0}) Refusal
static_ok t before i s = do
  _ports ← words_ok t (here ++ codes "ports") s.ports
  refuse (list_any (same_entry s) before) fault.Repeat (here ++ codes "mac")
  where
    here : List ℕ
    here = in_element (codes "static") i

abbrev pub action_ok : Shape → List ℕ → Action → Result (Unit {0}) Refusal
action_ok t here (does.Vlan vid tagged untagged) = words_ok t (here ++ codes "tagged") tagged >>= λ _. words_ok t (here ++ codes "untagged") untagged
action_ok t here (does.Member vid p kind) = port_ok t (here ++ codes "port") p
action_ok t here (does.Unmember vid p) = port_ok t (here ++ codes "port") p
action_ok t here (does.Pvid p vid) = port_ok t (here ++ codes "port") p
action_ok t here (does.Accept p types) = port_ok t (here ++ codes "port") p
action_ok t here (does.Filter p on) = port_ok t (here ++ codes "port") p
action_ok t here (does.Isolate p on) = port_ok t (here ++ codes "port") p
action_ok t here (does.Static vid address ports) = words_ok t (here ++ codes "ports") ports
action_ok t here (does.Unstatic vid address) = Ok tt
action_ok t here (does.Up p) = port_ok t (here ++ codes "port") p
action_ok t here (does.Down p) = port_ok t (here ++ codes "port") p

abbrev pub command_ok : Shape → List CommandElement → ℕ → CommandElement → Result (Unit {0}) Refusal
command_ok t before i c = action_ok t (in_element (codes "command") i) c.action

-- ---- captures

-- the key of a port in the table `captures`
abbrev pub capture_key : ℕ → List ℕ
capture_key p = in_table (codes "captures") ++ port_name p

abbrev pub capture_ok : Shape → List Named → ℕ → Named → Result (Unit {0}) Refusal
capture_ok t before i n = port_ok t (capture_key n.port) n.port

-- the names of all files that runs of this topology write
unfoldable pub output_names : List ℕ → Shape → List (List ℕ)
output_names prefix t = map (file_name prefix) (all_outputs t)

abbrev pub file_ok : List (List ℕ) → List Named → ℕ → Named → Result (Unit {0}) Refusal
file_ok outputs before i n = refuse (list_any (λ o. bytes_eq n.name o) outputs) fault.Repeat (capture_key n.port)

-- ---- the third pass, table after table
abbrev pub vlans_ok : Shape → Option (List VlanElement) → Result (Unit {0}) Refusal
vlans_ok t None = Ok tt
vlans_ok t (Some vs) = each_ok (vlan_ok t) vs 0 vs

unfoldable pub ports_ok : Shape → TopologyTables → Result (Unit {0}) Refusal
ports_ok t file = do
  _ports ← each_ok (port_table_ok t) file.ports 0 file.ports
  _vlans ← vlans_ok t file.vlans
  _statics ← each_ok (static_ok t) file.statics 0 file.statics
  _commands ← each_ok (command_ok t) file.commands 0 file.commands
  _captures ← each_ok (capture_ok t) file.captures 0 file.captures
  each_ok (file_ok (output_names file.bridge.out t)) file.captures 0 file.captures
