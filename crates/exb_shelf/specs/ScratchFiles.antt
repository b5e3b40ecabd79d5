-- What a shelf in memory holds.
use Rattle.std.specs.Prelude.{ℕ, Vec, String}
use Rattle.std.specs.Option.{option_map}
use Rattle.std.specs.BTreeMap.{BTreeMap, get_by_text}
use Rattle.std.specs.declared.alloc.Global.{Global}
use Rattle.exb_shelf.specs.declared.scratch.ScratchShelf.{ScratchShelf}
use Rattle.exb_shelf.specs.Files.{Files}
use Rattle.exb_shelf.specs.Shelf.{Id, Faults}
use Rattle.exb_shelf.specs.OpenFiles.{id_at}

-- the file of a name in a map
abbrev pub file_in : BTreeMap (String Global) (Vec ℕ Global) → Files
file_in files name = option_map (λ v. v.items) (get_by_text files name)

-- what a shelf in memory holds, the ids that it has given, and the faults that it has answered
abbrev pub scratch_files : ScratchShelf → Files
scratch_files s = file_in s.files

abbrev pub scratch_ids : ScratchShelf → ℕ → Id
scratch_ids s = id_at s.entries.items

abbrev pub scratch_faults : ScratchShelf → Faults
scratch_faults s = record { missing = s.missing; reads = 0; writes = 0 }
