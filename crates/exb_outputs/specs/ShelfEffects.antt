-- What calls that make and write outputs say of the shelf: what has changed, and what was opened.
use Rattle.std.specs.Prelude.{◌≡◌, ◌<◌, ◌⊎◌, ℕ, Result, IsErrOf}
use Rattle.exb_shelf.specs.FaultCounts.{after_write}
use Rattle.exb_shelf.specs.Files.{Files}
use Rattle.exb_shelf.specs.Shelf.{Faults, Id, NoFewer, Opens, Rose, writing}
use Rattle.exb_shelf.specs.declared.shelf.ShelfFault.{ShelfFault}
use Rattle.exb_shelf.specs.declared.shelf.ShelfFault.TheVariants.{Failed}
use Rattle.exb_inputs.specs.declared.fault.Fault.{Fault}
use Rattle.exb_inputs.specs.declared.fault.Fault.TheVariants.{Write, Memory}
use Rattle.exb_outputs.specs.Manifests.{Listed, OnlyListed, output_count, output_name}

-- a fault that can come while outputs are made and written
abbrev pub IsOfWriting : Fault → Type 0
IsOfWriting fault = (fault ≡ Write) ⊎ (fault ≡ Memory)

-- No count has fallen, and a failure to write came only where its count rose. It was counted once, and nothing else
-- was: where a call did its work, or memory ran out, nothing was.
pub record CountsWrites {X : Type 0} (result : Result X ShelfFault) (old new : Faults) : Type 0 where
  pub none_fell : NoFewer old new
  pub write : IsErrOf result Failed → Rose old.writes new.writes
  pub once : new ≡ after_write result old

-- an id to write an output of a manifest
pub record WritesListed (manifest : Listed) (i : Id) : Type 0 where
  pub at : ℕ
  pub within : at < output_count manifest
  pub writes : i ≡ writing (output_name manifest at)

-- no file but the outputs of a manifest has changed, and none was opened
pub record OnlyWrites (tells : Type 0) (manifest : Listed) (old new : Files) (given ids : ℕ → Id) : Type 0 where
  pub others : tells → OnlyListed manifest old new
  pub kept : (j : ℕ) → ids j ≡ given j

-- the same, where outputs of the manifest may have been made
pub record OnlyMakes (tells : Type 0) (manifest : Listed) (old new : Files) (given ids : ℕ → Id) : Type 0 where
  pub others : tells → OnlyListed manifest old new
  pub opened : Opens (WritesListed manifest) given ids
