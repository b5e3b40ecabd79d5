-- Captures that can be read while outputs are written: no output has the name of one of them.
use Rattle.std.specs.Prelude.{◌≡◌, ◌≢◌, ◌<◌, ℕ, true, List, Some}
use Rattle.exb_model.specs.Tree.{is_external}
use Rattle.exb_shelf.specs.Files.{Files}
use Rattle.exb_topology_tables.specs.declared.elements.Named.{Named}
use Rattle.exb_inputs.specs.declared.captures.CheckedCapture.{CheckedCapture}
use Rattle.exb_inputs.specs.CaptureChecks.{AreChecked}
use Rattle.exb_inputs.specs.Inputs.{is_named, name_of}
use Rattle.exb_outputs.specs.Manifests.{output_name, Listed, output_count}
use Rattle.std.specs.List.{AllByRecursion}
use Rattle.exb_shelf.specs.Shelf.{Id, IsReadingOf}

-- The captures of some external ports that were checked: no output of the manifest has the name of one of them, so they
-- stay as they are while the outputs are written.
pub record CanBeRead (tells : Type 0) (manifest : Listed) (names : List Named) (file : Files)
    (captures : List CheckedCapture) : Type 0 where
  pub checked : AreChecked tells names file captures
  pub external : (q : ℕ) → is_named names q ≡ true → is_external manifest.tree q ≡ true
  pub apart : (q : ℕ) (name : List ℕ) → name_of names q ≡ Some name → (j : ℕ) → j < output_count manifest
      → name ≢ output_name manifest j

-- the captures are read through these ids, and none has the name of an output
abbrev pub AreApart : Listed → (ℕ → Id) → List ℕ → Type 0
AreApart manifest ids mine = AllByRecursion (λ k. (name : List ℕ) × IsReadingOf name (ids k)
    × ((j : ℕ) → j < output_count manifest → name ≢ output_name manifest j)) mine
