-- What the tables of the file of a net say.
use Rattle.std.specs.Prelude.{ℕ, Bool, ◌==◌, nat_lt, if◌then◌else◌, List, [], ◌∷◌, Option, Some, None, Result, Ok, codes}
use Rattle.toml.specs.Data.{Data, Members, get_member}
use Rattle.exb_toml_keys.specs.declared.faults.KeyFault.{KeyFault}
use Rattle.exb_toml_keys.specs.declared.faults.KeyFault.TheVariants as fault
use Rattle.exb_toml_keys.specs.Faults.{Refusal, ◌>>=◌, in_element}
use Rattle.exb_toml_keys.specs.Keys.{text, worded, key_at, is_among, only, table_of, elements, each, same_state}
use Rattle.exb_topology_tables.specs.Commands.{count}
use Rattle.exb_topology.specs.ElementChecks.{refuse}
use Rattle.exb_net_file.specs.declared.schema.NetSchema.{NetSchema}
use Rattle.exb_net_file.specs.declared.schema.NetSchema.TheVariants as schema
use Rattle.exb_net_file.specs.declared.end_names.EndName.{EndName}
use Rattle.exb_net_file.specs.declared.elements.NetBridge.{NetBridge}
use Rattle.exb_net_file.specs.declared.elements.NetWire.{NetWire}
use Rattle.exb_net_file.specs.EndNames.{is_name, end_of}

unfoldable pub has_key : NetSchema → List ℕ → Bool
has_key schema.Root k = is_among (codes "bridge" ∷ codes "wire" ∷ []) k
has_key schema.Bridge k = is_among (codes "name" ∷ codes "topology" ∷ []) k
has_key schema.Wire k = is_among (codes "a" ∷ codes "b" ∷ []) k

-- ---- values

-- the name of a bridge
abbrev pub named_as : List ℕ → Option (List ℕ)
named_as s = if is_name s then Some s else None

unfoldable pub name : Data → Result (List ℕ) KeyFault
name d = worded named_as d

-- an end of a wire
unfoldable pub end : Data → Result EndName KeyFault
end d = worded end_of d

-- ---- [[bridge]]
unfoldable pub bridge : ℕ → Members → Result NetBridge Refusal
bridge i t = do
  _known ← only (has_key schema.Bridge) here t
  called ← key_at name None here (codes "name") t
  topology ← key_at text None here (codes "topology") t
  Ok (record { name = called; topology = topology })
  where
    here : List ℕ
    here = in_element (codes "bridge") i

abbrev pub bridge_item : Unit {0} → ℕ → Data → Result NetBridge Refusal
bridge_item s i d = table_of (codes "bridge") d >>= bridge i

-- 1 to 16 of them
unfoldable pub bridges : Members → Result (List NetBridge) Refusal
bridges t = do
  ds ← elements (codes "bridge") (get_member (codes "bridge") t)
  _some ← refuse (count ds == 0) fault.Missing (codes "bridge")
  _few ← refuse (nat_lt 16 (count ds)) fault.Range (codes "bridge")
  each bridge_item same_state tt 0 ds

-- ---- [[wire]]
unfoldable pub wire : ℕ → Members → Result NetWire Refusal
wire i t = do
  _known ← only (has_key schema.Wire) here t
  a ← key_at end None here (codes "a") t
  b ← key_at end None here (codes "b") t
  Ok (record { a = a; b = b })
  where
    here : List ℕ
    here = in_element (codes "wire") i

abbrev pub wire_item : Unit {0} → ℕ → Data → Result NetWire Refusal
wire_item s i d = table_of (codes "wire") d >>= wire i

-- at most 15 of them
unfoldable pub wires : Members → Result (List NetWire) Refusal
wires t = do
  ds ← elements (codes "wire") (get_member (codes "wire") t)
  _few ← refuse (nat_lt 15 (count ds)) fault.Range (codes "wire")
  each wire_item same_state tt 0 ds
