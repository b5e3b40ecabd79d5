-- What the tables of a topology file say, but for its commands.
use Rattle.std.specs.Prelude.{ℕ, ◌+◌, ◌/◌, ◌%◌, ◌≤◌, false, nat_lt, if◌then◌else◌, List, [], ◌∷◌, ◌++◌, Option, Some, None, Result, Ok, Err, codes}
use Rattle.toml.specs.Data.{Data, Members, no_members, member, get_member}
use Rattle.exb_model.specs.declared.rules.Accept.TheVariants as accepts
use Rattle.exb_model.specs.declared.setup.Place.{Place}
use Rattle.exb_model.specs.declared.setup.Place.TheVariants as place
use Rattle.exb_model.specs.declared.setup.ExtenderSetup.{ExtenderSetup}
use Rattle.exb_model.specs.declared.setup.Verdict.{Verdict}
use Rattle.exb_model.specs.Setup.{IsAgeing}
use Rattle.exb_toml_keys.specs.declared.faults.KeyFault.TheVariants as fault
use Rattle.exb_toml_keys.specs.Faults.{Refusal, at, ◌>>=◌, in_table, in_element}
use Rattle.exb_toml_keys.specs.TextValues.{port_of}
use Rattle.exb_toml_keys.specs.Keys as keys
use Rattle.exb_toml_keys.specs.Keys.{number, ageing, text, flag, address, accept, fate, words, named, placed, key_at, only, table_of, elements, each, same_state}
use Rattle.exb_topology_tables.specs.declared.schema.Schema.TheVariants as schema
use Rattle.exb_topology_tables.specs.declared.elements.BridgeTable.{BridgeTable}
use Rattle.exb_topology_tables.specs.declared.elements.PortElement.{PortElement}
use Rattle.exb_topology_tables.specs.declared.elements.VlanElement.{VlanElement}
use Rattle.exb_topology_tables.specs.declared.elements.StaticElement.{StaticElement}
use Rattle.exb_topology_tables.specs.declared.elements.Named.{Named}
use Rattle.exb_topology_tables.specs.Schemas.{has_key}

-- ---- [bridge]
unfoldable pub bridge : Members → Result BridgeTable Refusal
bridge t = do
  _known ← only (has_key schema.Bridge) here t
  ports ← key_at (number 1 64) None here (codes "ports") t
  channels ← key_at (number 1 4094) (Some 4094) here (codes "channels") t
  groups ← key_at (number 1 12288) (Some 12288) here (codes "groups") t
  age ← key_at ageing (Some 300) here (codes "ageing") t
  out ← key_at text (Some (codes "out-")) here (codes "out") t
  Ok (record { ports = ports; channels = channels; groups = groups; ageing = age; out = out })
  where
    here : List ℕ
    here = in_table (codes "bridge")

unfoldable pub bridge_key : Option Data → Result BridgeTable Refusal
bridge_key None = Err (at fault.Missing (codes "bridge"))
bridge_key (Some d) = table_of (codes "bridge") d >>= bridge

-- the numbers of the bridge are in their ranges
pub record IsBridgeInRange (b : BridgeTable) : Type 0 where
  pub some_ports : 1 ≤ b.ports
  pub most_ports : b.ports ≤ 64
  pub some_channels : 1 ≤ b.channels
  pub most_channels : b.channels ≤ 4094
  pub some_groups : 1 ≤ b.groups
  pub most_groups : b.groups ≤ 12288
  pub age : IsAgeing b.ageing

-- ---- [links]
unfoldable pub links : Members → Result (List Verdict) Refusal
links t = do
  _known ← only (has_key schema.Links) here t
  key_at (fate 0) (Some []) here (codes "fate") t
  where
    here : List ℕ
    here = in_table (codes "links")

unfoldable pub links_key : Option Data → Result (List Verdict) Refusal
links_key None = Ok []
links_key (Some d) = table_of (codes "links") d >>= links

-- ---- [[extender]]

-- the place of a port
abbrev pub place_of : ℕ → Place
place_of p = if nat_lt p 64 then place.Bridge (p + 1) else place.Extender (p / 64) (p % 64 + 1)

unfoldable pub extender : ℕ → Members → Result ExtenderSetup Refusal
extender i t = do
  _known ← only (has_key schema.Extender) here t
  n ← key_at (number 1 64) None here (codes "number") t
  on ← key_at keys.port None here (codes "on") t
  ports ← key_at (number 1 64) None here (codes "ports") t
  Ok (record { number = n; ports = ports; on = place_of on })
  where
    here : List ℕ
    here = in_element (codes "extender") i

abbrev pub extender_item : Unit {0} → ℕ → Data → Result ExtenderSetup Refusal
extender_item s i d = table_of (codes "extender") d >>= extender i

unfoldable pub extenders : Members → Result (List ExtenderSetup) Refusal
extenders t = elements (codes "extender") (get_member (codes "extender") t) >>= each extender_item same_state tt 0

-- ---- [[port]]
unfoldable pub port : ℕ → Members → Result PortElement Refusal
port i t = do
  _known ← only (has_key schema.Port) here t
  name ← key_at keys.port None here (codes "name") t
  pvid ← key_at (number 1 4094) (Some 1) here (codes "pvid") t
  types ← key_at accept (Some accepts.All) here (codes "accept") t
  filter ← key_at flag (Some false) here (codes "filter") t
  isolated ← key_at flag (Some false) here (codes "isolated") t
  Ok (record { name = name; pvid = pvid; accept = types; filter = filter; isolated = isolated })
  where
    here : List ℕ
    here = in_element (codes "port") i

abbrev pub port_item : Unit {0} → ℕ → Data → Result PortElement Refusal
port_item s i d = table_of (codes "port") d >>= port i

unfoldable pub ports : Members → Result (List PortElement) Refusal
ports t = elements (codes "port") (get_member (codes "port") t) >>= each port_item same_state tt 0

-- ---- [[vlan]]
unfoldable pub vlan : ℕ → Members → Result VlanElement Refusal
vlan i t = do
  _known ← only (has_key schema.Vlan) here t
  vid ← key_at (number 1 4094) None here (codes "vid") t
  last ← key_at (number vid 4094) (Some vid) here (codes "last") t
  tagged ← key_at words (Some []) here (codes "tagged") t
  untagged ← key_at words (Some []) here (codes "untagged") t
  Ok (record { vid = vid; last = last; tagged = tagged; untagged = untagged })
  where
    here : List ℕ
    here = in_element (codes "vlan") i

abbrev pub vlan_item : Unit {0} → ℕ → Data → Result VlanElement Refusal
vlan_item s i d = table_of (codes "vlan") d >>= vlan i

-- none where there is no such key
abbrev pub vlans_key : Option Data → Result (Option (List VlanElement)) Refusal
vlans_key None = Ok None
vlans_key (Some d) = elements (codes "vlan") (Some d) >>= each vlan_item same_state tt 0 >>= (λ vs. Ok (Some vs))

unfoldable pub vlans : Members → Result (Option (List VlanElement)) Refusal
vlans t = vlans_key (get_member (codes "vlan") t)

-- ---- [[static]]
unfoldable pub static_entry : ℕ → Members → Result StaticElement Refusal
static_entry i t = do
  _known ← only (has_key schema.Static) here t
  vid ← key_at (number 1 4094) None here (codes "vid") t
  mac ← key_at address None here (codes "mac") t
  ports ← key_at words None here (codes "ports") t
  Ok (record { vid = vid; address = mac; ports = ports })
  where
    here : List ℕ
    here = in_element (codes "static") i

abbrev pub static_item : Unit {0} → ℕ → Data → Result StaticElement Refusal
static_item s i d = table_of (codes "static") d >>= static_entry i

unfoldable pub statics : Members → Result (List StaticElement) Refusal
statics t = elements (codes "static") (get_member (codes "static") t) >>= each static_item same_state tt 0

-- ---- [captures]

-- one key: a port, with a text
unfoldable pub capture : List ℕ → Data → Result Named Refusal
capture key d = do
  p ← placed (in_table (codes "captures") ++ key) (named (port_of key))
  name ← placed (in_table (codes "captures") ++ key) (text d)
  Ok (record { port = p; name = name })

-- the keys in byte order, in which members stand
unfoldable pub captures : Members → Result (List Named) Refusal
captures no_members = Ok []
captures (member key d ms) = capture key d >>= (λ x. captures ms >>= (λ xs. Ok (x ∷ xs)))

unfoldable pub captures_key : Option Data → Result (List Named) Refusal
captures_key None = Ok []
captures_key (Some d) = table_of (codes "captures") d >>= captures
