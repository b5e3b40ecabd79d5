-- The outputs of a tree by their names: which files they are, that no other has changed, and what a file holds where
-- writing ended early.
use Rattle.std.specs.Prelude.{◌≡◌, ◌≢◌, ◌⊎◌, ℕ, List, Option, Some, take}
use Rattle.exb_model.specs.Tree.{Shape}
use Rattle.exb_shelf.specs.Files.{Files}
use Rattle.exb_journal.specs.declared.file_names.OutputKind.{OutputKind}
use Rattle.exb_journal.specs.FileNames.{file_name}
use Rattle.exb_cli.specs.declared.invocations.Options.{Options}
use Rattle.exb_outputs.specs.Manifests.{IsMade}

-- no file but those of the kinds that are made has changed
abbrev pub OnlyOutputs : Options → Shape → List ℕ → Files → Files → Type 0
OnlyOutputs options tree prefix old new = (m : List ℕ) → ((o : OutputKind) → IsMade options tree o
    → m ≢ file_name prefix o) → new m ≡ old m

-- the file of each kind that is made holds the text of its kind
abbrev pub AreWhole : Options → Shape → List ℕ → Files → (OutputKind → List ℕ) → Type 0
AreWhole options tree prefix new text = (o : OutputKind) → IsMade options tree o
    → new (file_name prefix o) ≡ Some (text o)

-- ---- where a run ended early
-- a file is as it was, or holds a front of a text
abbrev pub IsCut : Option (List ℕ) → Option (List ℕ) → List ℕ → Type 0
IsCut old new text = (new ≡ old) ⊎ ((n : ℕ) × (new ≡ Some (take n text)))

-- the name of a file that runs of a tree write under a prefix
abbrev pub IsOutput : Options → Shape → List ℕ → List ℕ → Type 0
IsOutput options tree prefix name = (o : OutputKind) × IsMade options tree o × (name ≡ file_name prefix o)
