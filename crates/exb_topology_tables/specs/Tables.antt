-- The tables of a topology file, or its first fault of shape.
use Rattle.std.specs.Prelude.{ℕ, List, [], length, Result, Ok, codes, All}
use Rattle.toml.specs.Data.{Members, get_member}
use Rattle.exb_model.specs.Setup.{InRange}
use Rattle.exb_toml_keys.specs.Faults.{Refusal, ◌>>=◌}
use Rattle.exb_toml_keys.specs.Keys.{only}
use Rattle.exb_toml_keys.specs.Documents.{document}
use Rattle.exb_topology_tables.specs.declared.schema.Schema.TheVariants as schema
use Rattle.exb_topology_tables.specs.declared.tables.TopologyTables.{TopologyTables}
use Rattle.exb_topology_tables.specs.Schemas.{has_key}
use Rattle.exb_topology_tables.specs.Elements.{IsBridgeInRange, bridge_key, links_key, extenders, ports, vlans, statics, captures_key}
use Rattle.exb_topology_tables.specs.Commands.{commands}

-- unknown tables, and then each table whole before the next
unfoldable pub file_tables : Members → Result TopologyTables Refusal
file_tables t = do
  _known ← only (has_key schema.Root) [] t
  bridge ← bridge_key (get_member (codes "bridge") t)
  fate ← links_key (get_member (codes "links") t)
  es ← extenders t
  ps ← ports t
  vs ← vlans t
  ss ← statics t
  cs ← commands (length fate) t
  files ← captures_key (get_member (codes "captures") t)
  Ok (record {
    bridge = bridge;
    fate = fate;
    extenders = es;
    ports = ps;
    vlans = vs;
    statics = ss;
    commands = cs;
    captures = files;
  })

-- the tables of a file of at most 16,777,216 bytes
unfoldable pub tables_of : List ℕ → Result TopologyTables Refusal
tables_of file = document 16777216 file >>= file_tables

-- the numbers of the bridge and of the extenders are in their ranges
pub record AreInRange (t : TopologyTables) : Type 0 where
  pub bridge : IsBridgeInRange t.bridge
  pub extenders : All InRange t.extenders
