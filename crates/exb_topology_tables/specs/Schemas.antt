-- Which keys a table defines.
use Rattle.std.specs.Prelude.{ℕ, Bool, ◌||◌, List, [], ◌∷◌, codes}
use Rattle.exb_toml_keys.specs.Keys.{is_among}
use Rattle.exb_topology_tables.specs.declared.schema.Schema.{Schema}
use Rattle.exb_topology_tables.specs.declared.schema.Schema.TheVariants as schema
use Rattle.exb_topology_tables.specs.declared.commands.Op.{Op}
use Rattle.exb_topology_tables.specs.declared.commands.Op.TheVariants as ops

-- those of an operation, beside `at`, `op` and `fate`, which each command has
abbrev pub op_keys : Op → List (List ℕ)
op_keys ops.Vlan = codes "vid" ∷ codes "tagged" ∷ codes "untagged" ∷ []
op_keys ops.Member = codes "vid" ∷ codes "port" ∷ codes "kind" ∷ []
op_keys ops.Unmember = codes "vid" ∷ codes "port" ∷ []
op_keys ops.Pvid = codes "vid" ∷ codes "port" ∷ []
op_keys ops.Accept = codes "port" ∷ codes "accept" ∷ []
op_keys ops.Filter = codes "port" ∷ codes "filter" ∷ []
op_keys ops.Isolate = codes "port" ∷ codes "isolated" ∷ []
op_keys ops.Static = codes "vid" ∷ codes "mac" ∷ codes "ports" ∷ []
op_keys ops.Unstatic = codes "vid" ∷ codes "mac" ∷ []
op_keys ops.Up = codes "port" ∷ []
op_keys ops.Down = codes "port" ∷ []

abbrev pub has_op_key : Op → List ℕ → Bool
has_op_key op k = is_among (op_keys op) k

unfoldable pub has_key : Schema → List ℕ → Bool
has_key schema.Root k =
    is_among (codes "bridge" ∷ codes "links" ∷ codes "extender" ∷ codes "port" ∷ codes "vlan" ∷ codes "static" ∷ codes "command" ∷ codes "captures" ∷ []) k
has_key schema.Bridge k = is_among (codes "ports" ∷ codes "channels" ∷ codes "groups" ∷ codes "ageing" ∷ codes "out" ∷ []) k
has_key schema.Links k = is_among (codes "fate" ∷ []) k
has_key schema.Extender k = is_among (codes "number" ∷ codes "on" ∷ codes "ports" ∷ []) k
has_key schema.Port k = is_among (codes "name" ∷ codes "pvid" ∷ codes "accept" ∷ codes "filter" ∷ codes "isolated" ∷ []) k
has_key schema.Vlan k = is_among (codes "vid" ∷ codes "last" ∷ codes "tagged" ∷ codes "untagged" ∷ []) k
has_key schema.Static k = is_among (codes "vid" ∷ codes "mac" ∷ codes "ports" ∷ []) k
has_key (schema.Command op) k = is_among (codes "at" ∷ codes "op" ∷ codes "fate" ∷ []) k || has_op_key op k
