-- What a shelf and a sink hold whose calls are disturbed.
use Rattle.std.specs.Prelude.{ℕ, List, None}
use Rattle.exb_shelf.specs.Files.{Files}
use Rattle.exb_shelf.specs.Shelf.{Id, Faults}
use Rattle.exb_shelf.specs.ScratchFiles.{scratch_faults, scratch_files, scratch_ids}
use Rattle.exb_test_shelf.specs.declared.changing_shelf.ChangingShelf.{ChangingShelf}
use Rattle.exb_test_shelf.specs.declared.faulty_shelf.FaultyShelf.{FaultyShelf}
use Rattle.exb_test_shelf.specs.declared.faulty_sink.FaultySink.{FaultySink}

-- ---- files
abbrev pub files_of : FaultyShelf → Files
files_of s = scratch_files s.kept

abbrev pub ids_of : FaultyShelf → ℕ → Id
ids_of s = scratch_ids s.kept

abbrev pub faults_of : FaultyShelf → Faults
faults_of s = record { missing = s.kept.missing; reads = s.reads; writes = s.writes }

-- ---- files of which one changes, and none is told
abbrev pub untold : ChangingShelf → Files
untold s = λ n. None

abbrev pub changing_ids : ChangingShelf → ℕ → Id
changing_ids s = scratch_ids s.kept

abbrev pub changing_faults : ChangingShelf → Faults
changing_faults s = scratch_faults s.kept

-- ---- a sink
abbrev pub printed : FaultySink → List ℕ
printed s = s.text.items

abbrev pub print_faults : FaultySink → ℕ
print_faults s = s.faults
