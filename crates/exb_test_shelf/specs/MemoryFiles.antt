-- What a shelf and a sink in memory hold that fail where they are told to.
use Rattle.std.specs.Prelude.{ℕ, List}
use Rattle.exb_shelf.specs.Files.{Files}
use Rattle.exb_shelf.specs.Shelf.{Id, Faults}
use Rattle.exb_shelf.specs.ScratchFiles.{scratch_files, scratch_ids}
use Rattle.exb_test_shelf.specs.declared.memory_shelf.MemShelf.{MemShelf}
use Rattle.exb_test_shelf.specs.declared.memory_shelf.MemSink.{MemSink}

-- ---- files
abbrev pub files_of : MemShelf → Files
files_of s = scratch_files s.kept

abbrev pub ids_of : MemShelf → ℕ → Id
ids_of s = scratch_ids s.kept

abbrev pub faults_of : MemShelf → Faults
faults_of s = record { missing = s.kept.missing; reads = s.reads; writes = s.writes }

-- how many calls of the trait were made, up to 2^64 - 1
abbrev pub calls_of : MemShelf → ℕ
calls_of s = s.calls

-- the numbers of the calls that are to fail
abbrev pub failing_of : MemShelf → List ℕ
failing_of s = s.fail.items

-- ---- a sink
abbrev pub text_of : MemSink → List ℕ
text_of s = s.text.items

-- how many calls of the sink were made, up to 2^64 - 1
abbrev pub sink_calls_of : MemSink → ℕ
sink_calls_of s = s.calls

-- the numbers of the sink's calls that are to fail
abbrev pub sink_failing_of : MemSink → List ℕ
sink_failing_of s = s.fail.items

-- how often the sink has failed
abbrev pub sink_faults_of : MemSink → ℕ
sink_faults_of s = s.faults
