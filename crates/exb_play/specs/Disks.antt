-- What a shelf means, as one value, and what calls may touch of it.
use Rattle.std.specs.Prelude.{◌≡◌, ◌≢◌, ◌<◌, ℕ, List}
use Rattle.exb_timeline.specs.CaptureMerges.{ReadsOn}
use Rattle.exb_outputs.specs.Manifests.{Listed, output_count, output_name}
use Rattle.exb_shelf.specs.Files.{Files}
use Rattle.exb_shelf.specs.Shelf.{Faults, Id, NoFewer}
use Rattle.exb_shelf.specs.declared.shelf.Shelf.{Ghosts}

-- its files, what its ids stand for, and the faults that it has counted
pub record Disk : Type 0 where
  pub files : Files
  pub ids : ℕ → Id
  pub faults : Faults

abbrev pub disk : {A : Type 0} → Ghosts A → A → Disk
disk S shelf = record { files = S.file shelf; ids = S.ids shelf; faults = S.faults shelf }

-- Files that are to stay have stayed, where that is known; only through these ids was read; and no count has fallen. It
-- goes from a disk to itself, and on from there.
pub record Touches (known : Type 0) (stays : List ℕ → Type 0) (mine : List ℕ) (old new : Disk) : Type 0 where
  pub files : known → (name : List ℕ) → stays name → new.files name ≡ old.files name
  pub ids : ReadsOn mine old.ids new.ids
  pub faults : NoFewer old.faults new.faults

-- a name that no output of a manifest has
abbrev pub IsApart : Listed → List ℕ → Type 0
IsApart manifest name = (j : ℕ) → j < output_count manifest → name ≢ output_name manifest j

-- what calls touch that read, and that write outputs of a manifest, and that do both
abbrev pub Reads : List ℕ → Disk → Disk → Type 0
Reads mine old new = Touches (Unit {0}) (λ name. Unit {0}) mine old new

abbrev pub Plays : Type 0 → Listed → List ℕ → Disk → Disk → Type 0
Plays tells manifest mine old new = Touches tells (IsApart manifest) mine old new
