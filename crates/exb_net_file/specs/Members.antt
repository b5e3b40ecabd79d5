-- The bridges of a net with their topologies: how many external ports they have together, and which files they write.
use Rattle.std.specs.Prelude.{ℕ, Bool, List, ◌++◌, length, Result, codes, sum_by}
use Rattle.std.specs.List.{list_any}
use Rattle.std.specs.Str.{bytes_eq}
use Rattle.exb_model.specs.Tree.{Shape, external_ports}
use Rattle.exb_model.specs.Setup.{shape_of}
use Rattle.exb_toml_keys.specs.declared.faults.KeyFault.TheVariants as fault
use Rattle.exb_toml_keys.specs.Faults.{Refusal, in_element}
use Rattle.exb_topology.specs.Checks.{output_names}
use Rattle.exb_topology.specs.ElementChecks.{refuse}
use Rattle.exb_net_file.specs.declared.members.NetMember.{NetMember}

abbrev pub tree_in : NetMember → Shape
tree_in m = shape_of m.topology.setup

-- how many external ports all bridges have together
unfoldable pub ports_together : List NetMember → ℕ
ports_together ms = sum_by (λ m. length (external_ports (tree_in m))) ms

-- ---- files

-- what the names of a bridge's output files begin with, in place of its topology's prefix
abbrev pub prefix_of : List ℕ → List ℕ
prefix_of name = name ++ codes "-"

-- the names of all files that a bridge may write, its trace and its counters among them
abbrev pub outputs_in : NetMember → List (List ℕ)
outputs_in m = output_names (prefix_of m.name) (tree_in m)

-- the file of that name is one that some bridge may write
abbrev pub is_output_of_net : List NetMember → List ℕ → Bool
is_output_of_net ms name = list_any (λ m. list_any (λ o. bytes_eq name o) (outputs_in m)) ms

-- a capture that the bridge reads is such a file
abbrev pub files_ok : List NetMember → List NetMember → ℕ → NetMember → Result (Unit {0}) Refusal
files_ok ms before i m =
    refuse (list_any (λ capture. is_output_of_net ms capture.name) m.topology.captures) fault.Repeat (in_element (codes "bridge") i ++ codes "topology")
