-- What calls that play say of the shelf: what has changed, and what was opened.
use Rattle.std.specs.Prelude.{◌⊎◌, ℕ, List}
use Rattle.exb_shelf.specs.Files.{Files}
use Rattle.exb_shelf.specs.Shelf.{Id, Opens}
use Rattle.exb_outputs.specs.Manifests.{Listed, OnlyListed}
use Rattle.exb_outputs.specs.ShelfEffects.{WritesListed}
use Rattle.exb_topology_tables.specs.declared.elements.Named.{Named}
use Rattle.exb_inputs.specs.ShelfEffects.{ReadsCapture}

-- an id to read the capture of a port that is named, or to write an output of a manifest
abbrev pub IsOfRun : List Named → Listed → Id → Type 0
IsOfRun names manifest i = ReadsCapture names i ⊎ WritesListed manifest i

-- no file but the outputs of a manifest has changed; captures that are named may have been opened, and outputs of the
-- manifest made
pub record OnlyPlays (tells : Type 0) (names : List Named) (manifest : Listed) (old new : Files) (given ids : ℕ
    → Id) : Type 0 where
  pub others : tells → OnlyListed manifest old new
  pub opened : Opens (IsOfRun names manifest) given ids
