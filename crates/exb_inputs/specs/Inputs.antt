-- What a run is given: its topology, the captures that this names, and the input that they make.
use Rattle.std.specs.Prelude.{ℕ, Bool, ◌==◌, if◌then◌else◌, List, [], ◌∷◌, Option, Some, None, map, is_some}
use Rattle.exb_model.specs.declared.setup.Setup.{Setup}
use Rattle.exb_model.specs.declared.setup.Timed.{Timed}
use Rattle.exb_model.specs.Input.{Input, Record, given_by}
use Rattle.exb_capture.specs.Captures.{capture_records, records_or_none}
use Rattle.exb_shelf.specs.Files.{Files, bytes_of}
use Rattle.exb_topology_tables.specs.declared.elements.Named.{Named}
use Rattle.exb_topology.specs.declared.topology.Topology.{Topology}

-- ---- captures
-- the name of the file with the capture of port q, if it has one
abbrev pub name_of : List Named → ℕ → Option (List ℕ)
name_of [] q = None
name_of (x ∷ xs) q = if x.port == q then Some x.name else name_of xs q

-- port q has a capture
abbrev pub is_named : List Named → ℕ → Bool
is_named names q = is_some (name_of names q)

-- the bytes of a file that is named, and none where none is named
abbrev pub bytes_named : Files → Option (List ℕ) → List ℕ
bytes_named file None = []
bytes_named file (Some name) = bytes_of (file name)

-- the bytes of the capture of port q
abbrev pub bytes_at : List Named → Files → ℕ → List ℕ
bytes_at names file q = bytes_named file (name_of names q)

-- ---- the input
-- the records of the capture of port q, and none where it has no capture
abbrev pub records_at : List Named → Files → ℕ → List Record
records_at names file q = if is_named names q then records_or_none (capture_records (bytes_at names file q)) else []

-- the input of a setup, of commands and of the captures that are named
abbrev pub input_from : Setup → List Timed → List Named → Files → Input
input_from setup commands names file = record {
  setup = setup;
  commands = map given_by commands;
  records = records_at names file;
}

-- the input of a topology and of the captures that it names
abbrev pub input_of : Topology → Files → Input
input_of t file = input_from t.setup t.commands t.captures file
