-- What the commands of a topology file say.
use Rattle.std.specs.Prelude.{ℕ, ◌+◌, nat_le, if◌then◌else◌, List, [], length, Option, Some, None, Result, Ok, Err, codes}
use Rattle.std.specs.Str.{bytes_eq}
use Rattle.toml.specs.Data.{Data, string, Items, no_items, item, Members, get_member}
use Rattle.exb_toml_keys.specs.declared.faults.KeyFault.{KeyFault}
use Rattle.exb_toml_keys.specs.declared.faults.KeyFault.TheVariants as fault
use Rattle.exb_toml_keys.specs.Faults.{Refusal, at, ◌>>=◌, in_element}
use Rattle.exb_toml_keys.specs.Keys.{number, port, flag, address, accept, kind, seconds, fate, words, named, key_at, only, table_of, elements, each}
use Rattle.exb_topology_tables.specs.declared.schema.Schema.TheVariants as schema
use Rattle.exb_topology_tables.specs.declared.commands.Op.{Op}
use Rattle.exb_topology_tables.specs.declared.commands.Op.TheVariants as ops
use Rattle.exb_topology_tables.specs.declared.commands.Action.{Action}
use Rattle.exb_topology_tables.specs.declared.commands.Action.TheVariants as does
use Rattle.exb_topology_tables.specs.declared.commands.CommandElement.{CommandElement}
use Rattle.exb_topology_tables.specs.Schemas.{has_key}

abbrev pub op_of : List ℕ → Option Op
op_of s =
    if bytes_eq s (codes "vlan") then Some ops.Vlan
    else if bytes_eq s (codes "member") then Some ops.Member
    else if bytes_eq s (codes "unmember") then Some ops.Unmember
    else if bytes_eq s (codes "pvid") then Some ops.Pvid
    else if bytes_eq s (codes "accept") then Some ops.Accept
    else if bytes_eq s (codes "filter") then Some ops.Filter
    else if bytes_eq s (codes "isolate") then Some ops.Isolate
    else if bytes_eq s (codes "static") then Some ops.Static
    else if bytes_eq s (codes "unstatic") then Some ops.Unstatic
    else if bytes_eq s (codes "up") then Some ops.Up
    else if bytes_eq s (codes "down") then Some ops.Down
    else None

unfoldable pub op_in : Data → Result Op KeyFault
op_in (string s) = named (op_of s)
op_in _ = Err fault.Kind

-- the keys of an operation, in the order vid, port, kind, tagged, untagged, accept, filter, isolated, mac, ports
unfoldable pub action : Op → List ℕ → Members → Result Action Refusal
action ops.Vlan here t = do
  vid ← key_at (number 1 4094) None here (codes "vid") t
  tagged ← key_at words (Some []) here (codes "tagged") t
  untagged ← key_at words (Some []) here (codes "untagged") t
  Ok (does.Vlan vid tagged untagged)
action ops.Member here t = do
  vid ← key_at (number 1 4094) None here (codes "vid") t
  p ← key_at port None here (codes "port") t
  k ← key_at kind None here (codes "kind") t
  Ok (does.Member vid p k)
action ops.Unmember here t = do
  vid ← key_at (number 1 4094) None here (codes "vid") t
  p ← key_at port None here (codes "port") t
  Ok (does.Unmember vid p)
action ops.Pvid here t = do
  vid ← key_at (number 1 4094) None here (codes "vid") t
  p ← key_at port None here (codes "port") t
  Ok (does.Pvid p vid)
action ops.Accept here t = do
  p ← key_at port None here (codes "port") t
  types ← key_at accept None here (codes "accept") t
  Ok (does.Accept p types)
action ops.Filter here t = do
  p ← key_at port None here (codes "port") t
  on ← key_at flag None here (codes "filter") t
  Ok (does.Filter p on)
action ops.Isolate here t = do
  p ← key_at port None here (codes "port") t
  on ← key_at flag None here (codes "isolated") t
  Ok (does.Isolate p on)
action ops.Static here t = do
  vid ← key_at (number 1 4094) None here (codes "vid") t
  mac ← key_at address None here (codes "mac") t
  ports ← key_at words None here (codes "ports") t
  Ok (does.Static vid mac ports)
action ops.Unstatic here t = do
  vid ← key_at (number 1 4094) None here (codes "vid") t
  mac ← key_at address None here (codes "mac") t
  Ok (does.Unstatic vid mac)
action ops.Up here t = do
  p ← key_at port None here (codes "port") t
  Ok (does.Up p)
action ops.Down here t = do
  p ← key_at port None here (codes "port") t
  Ok (does.Down p)

-- a command, after the seconds of the one before and the letters of all fates before
unfoldable pub command : ℕ × ℕ → ℕ → Members → Result CommandElement Refusal
command before i t = do
  op ← key_at op_in None here (codes "op") t
  _known ← only (has_key (schema.Command op)) here t
  at_second ← key_at (seconds before.0) None here (codes "at") t
  deed ← action op here t
  letters ← key_at (fate before.1) (Some []) here (codes "fate") t
  Ok (record { at = at_second; action = deed; fate = letters })
  where
    here : List ℕ
    here = in_element (codes "command") i

abbrev pub command_item : ℕ × ℕ → ℕ → Data → Result CommandElement Refusal
command_item s i d = table_of (codes "command") d >>= command s i

-- the seconds of a command, and the letters with its own
abbrev pub after_command : ℕ × ℕ → CommandElement → ℕ × ℕ
after_command s c = (c.at, s.1 + length c.fate)

abbrev pub count : Items → ℕ
count no_items = 0
count (item d ds) = count ds + 1

-- at most 65,536 commands, with this many letters of fates before them
unfoldable pub commands : ℕ → Members → Result (List CommandElement) Refusal
commands letters t = elements (codes "command") (get_member (codes "command") t) >>= λ ds.
    if nat_le (count ds) 65536 then each command_item after_command (0, letters) 0 ds else Err (at fault.Range (codes "command"))
