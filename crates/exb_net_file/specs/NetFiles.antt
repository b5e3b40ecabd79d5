-- What the file of a net says by itself, or its first fault.
use Rattle.std.specs.Prelude.{◌≡◌, ◌≢◌, ℕ, ◌≤◌, true, List, [], ◌++◌, length, Result, Ok, codes, All, AllPairs}
use Rattle.std.specs.List.{list_any}
use Rattle.std.specs.Str.{bytes_eq}
use Rattle.toml.specs.Data.{Members}
use Rattle.exb_toml_keys.specs.declared.faults.KeyFault.TheVariants as fault
use Rattle.exb_toml_keys.specs.Documents.{document}
use Rattle.exb_toml_keys.specs.Faults.{Refusal, ◌>>=◌, in_element}
use Rattle.exb_toml_keys.specs.Keys.{only}
use Rattle.exb_topology.specs.ElementChecks.{each_ok, refuse}
use Rattle.exb_net_file.specs.declared.schema.NetSchema.TheVariants as schema
use Rattle.exb_net_file.specs.declared.elements.NetBridge.{NetBridge}
use Rattle.exb_net_file.specs.declared.net_file.NetFile.{NetFile}
use Rattle.exb_net_file.specs.EndNames.{is_name}
use Rattle.exb_net_file.specs.Elements.{has_key, bridges, wires}

-- unknown tables, and then the bridges before the wires
unfoldable pub file_rows : Members → Result NetFile Refusal
file_rows t = do
  _known ← only (has_key schema.Root) [] t
  bs ← bridges t
  ws ← wires t
  Ok (record { bridges = bs; wires = ws })

-- no bridge before it has its name
abbrev pub name_ok : List NetBridge → ℕ → NetBridge → Result (Unit {0}) Refusal
name_ok before i b = refuse (list_any (λ c. bytes_eq c.name b.name) before) fault.Repeat (in_element (codes "bridge") i ++ codes "name")

unfoldable pub names_ok : NetFile → Result NetFile Refusal
names_ok f = do
  _names ← each_ok name_ok f.bridges 0 f.bridges
  Ok f

-- a file of at most 1,048,576 bytes
unfoldable pub net_file_of : List ℕ → Result NetFile Refusal
net_file_of file = document 1048576 file >>= file_rows >>= names_ok

-- ---- what holds of every file that is read
pub record IsNetFile (f : NetFile) : Type 0 where
  pub some : 1 ≤ length f.bridges
  pub bridges : length f.bridges ≤ 16
  pub wires : length f.wires ≤ 15
  pub names : All (λ b. is_name b.name ≡ true) f.bridges
  pub apart : AllPairs (λ b c. b.name ≢ c.name) f.bridges
