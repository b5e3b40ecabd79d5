-- What a run writes: a capture for each external port of a tree, and the other kinds that are asked for.
use Rattle.std.specs.Prelude.{◌≡◌, ◌≢◌, ◌<◌, ◌+◌, ◌-◌, ℕ, true, if◌then◌else◌, List, Option, Some, None, filter, get_or, length, nat_lt, slice_index}
use Rattle.exb_model.specs.Ports.{below}
use Rattle.exb_model.specs.Tree.{Shape, is_external, external_ports}
use Rattle.exb_shelf.specs.Files.{Files}
use Rattle.exb_journal.specs.declared.file_names.OutputKind.{OutputKind}
use Rattle.exb_journal.specs.declared.file_names.OutputKind.TheVariants as output
use Rattle.exb_journal.specs.FileNames.{file_name}
use Rattle.exb_cli.specs.declared.invocations.Options.{Options}
use Rattle.exb_cli.specs.Kinds.{is_asked, kinds_behind, place_behind, port_of}

-- a tree, what the names of all files begin with, and what is asked for
pub record Listed : Type 0 where
  pub tree : Shape
  pub prefix : List ℕ
  pub options : Options

-- ---- kinds
-- a capture is made of each external port of a tree, and each other kind where it is asked for
abbrev pub IsMadeAt : Options → Shape → OutputKind → Option ℕ → Type 0
IsMadeAt o t k (Some q) = is_external t q ≡ true
IsMadeAt o t k None = is_asked o k ≡ true

abbrev pub IsMade : Options → Shape → OutputKind → Type 0
IsMade o t k = IsMadeAt o t k (port_of k)

-- ---- places

-- how many captures there are
abbrev pub port_count : Listed → ℕ
port_count manifest = length (external_ports manifest.tree)

-- and how many files
abbrev pub output_count : Listed → ℕ
output_count manifest = port_count manifest + length (kinds_behind manifest.options)

-- the port of capture j, counted from 0
abbrev pub port_at : Listed → ℕ → ℕ
port_at manifest j = slice_index (external_ports manifest.tree) j

-- the kind of file j, counted from 0: the captures come first
abbrev pub kind_at : Listed → ℕ → OutputKind
kind_at manifest j = if nat_lt j (port_count manifest) then output.Capture (port_at manifest j) else get_or
    (kinds_behind manifest.options) (j - port_count manifest) output.Journal

-- the place of port q among the external ports of a tree
abbrev pub place_in : Shape → ℕ → ℕ
place_in tree q = length (filter (is_external tree) (below q))

-- the place of the file of a kind: that of its port, or one behind the captures
abbrev pub place_at : Listed → OutputKind → Option ℕ → ℕ
place_at manifest o (Some q) = place_in manifest.tree q
place_at manifest o None = port_count manifest + place_behind manifest.options o

abbrev pub place_of : Listed → OutputKind → ℕ
place_of manifest o = place_at manifest o (port_of o)

-- a row with the external ports of a tree in order, and a table with the place of each port
pub record ArePlaced (tree : Shape) (row table : List ℕ) : Type 0 where
  pub ports : row ≡ external_ports tree
  pub sized : length table ≡ 4160
  pub placed : (q : ℕ) → q < 4160 → slice_index table q ≡ place_in tree q

-- ---- names
-- the name of file j, counted from 0
abbrev pub output_name : Listed → ℕ → List ℕ
output_name manifest j = file_name manifest.prefix (kind_at manifest j)

-- no file but the outputs has changed
abbrev pub OnlyListed : Listed → Files → Files → Type 0
OnlyListed manifest old new = (m : List ℕ) → ((j : ℕ) → j < output_count manifest → m ≢ output_name manifest j)
    → new m ≡ old m
