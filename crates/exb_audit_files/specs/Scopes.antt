-- Which files of frames an audit reads.
use Rattle.std.specs.Prelude.{ℕ, if◌then◌else◌, List, [], ◌∷◌, flat_map, Option, Some, None}
use Rattle.exb_model.specs.Ports.{all_ports}
use Rattle.exb_model.specs.Setup.{shape_of}
use Rattle.exb_model.specs.Tree.{Shape, is_external}
use Rattle.exb_topology_tables.specs.declared.elements.Named.{Named}
use Rattle.exb_journal.specs.FileNames.{capture_name}
use Rattle.exb_topology.specs.declared.topology.Topology.{Topology}
use Rattle.exb_inputs.specs.Inputs.{name_of}
use Rattle.exb_audit_files.specs.declared.port_files.PortFile.{PortFile}

-- what is audited: a tree, the captures that were played, and what the names of all files begin with that were written
pub record Scope : Type 0 where
  pub tree : Shape
  pub captures : List Named
  pub prefix : List ℕ

abbrev pub scope_of : Topology → Scope
scope_of t = record { tree = shape_of t.setup; captures = t.captures; prefix = t.prefix }

-- ---- captures
-- the file of this name, if there is one
abbrev pub file_named : ℕ → Option (List ℕ) → List PortFile
file_named p None = []
file_named p (Some name) = record { port = p; name = name } ∷ []

-- the capture of port p, if it has one
abbrev pub capture_file : List Named → ℕ → List PortFile
capture_file names p = file_named p (name_of names p)

-- all captures, in port order
abbrev pub capture_files : List Named → List PortFile
capture_files names = flat_map (capture_file names) all_ports

-- ---- output files
-- what left port q, if it is an external one
abbrev pub output_file : Shape → List ℕ → ℕ → List PortFile
output_file t prefix q = if is_external t q then record { port = q; name = capture_name prefix q } ∷ [] else []

-- of all external ports, in port order
abbrev pub output_files : Shape → List ℕ → List PortFile
output_files t prefix = flat_map (output_file t prefix) all_ports
