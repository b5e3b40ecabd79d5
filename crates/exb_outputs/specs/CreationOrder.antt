-- In which order outputs are made.
use Rattle.std.specs.Prelude.{⊤, ◌≡◌, ◌≢◌, ◌<◌, ◌≤◌, ◌⊎◌, ℕ, true, false, List, Result, Ok, Err, IsErrOf}
use Rattle.exb_inputs.specs.declared.fault.Fault.{Fault}
use Rattle.exb_inputs.specs.declared.fault.Fault.TheVariants.{Changed, Read}
use Rattle.exb_shelf.specs.Shelf.{Id, writing}
use Rattle.exb_outputs.specs.Manifests.{output_name, Listed, output_count}

-- the file of this name was made through this id, which is above all that were given, and no other was opened
pub record MakesFile (id : ℕ) (name : List ℕ) (given ids : ℕ → Id) : Type 0 where
  pub fresh : (given id).given ≡ false
  pub above : (j : ℕ) → (given j).given ≡ true → j < id
  pub named : ids id ≡ writing name
  pub others : (j : ℕ) → j ≢ id → ids j ≡ given j

-- The first k outputs of a manifest were made, one after the other and each once, and no other file: `at` says through
-- which ids. Since ids rise, their order is that in which the files were made.
pub record MadeInOrder (manifest : Listed) (k : ℕ) (given ids : ℕ → Id) : Type 0 where
  pub at : ℕ → ℕ
  pub within : k ≤ output_count manifest
  pub fresh : (j : ℕ) → j < k → (given (at j)).given ≡ false
  pub named : (j : ℕ) → j < k → ids (at j) ≡ writing (output_name manifest j)
  pub rises : (i j : ℕ) → i < j → j < k → at i < at j
  pub only : (id : ℕ) → (given id).given ≡ false → (ids id).given ≡ true → (ids id).reads ≡ false
      → (j : ℕ) × (j < k) × (id ≡ at j)

-- a result that comes only after all outputs were made
abbrev pub IsLate : {X : Type 0} → Result X Fault → Type 0
IsLate (Ok x) = ⊤
IsLate (Err (Changed p at)) = ⊤
IsLate (Err _) = ⊥

-- The first outputs were made, and all of them where all went well or a capture turned out to be another one. Where the
-- shelf failed to read that was before the first one was made, or behind the last.
pub record MakesInOrder {X : Type 0} (manifest : Listed) (result : Result X Fault) (given ids : ℕ → Id) : Type 0 where
  pub count : ℕ
  pub made : MadeInOrder manifest count given ids
  pub all : IsLate result → count ≡ output_count manifest
  pub unread : IsErrOf result Read → (count ≡ 0) ⊎ (count ≡ output_count manifest)
