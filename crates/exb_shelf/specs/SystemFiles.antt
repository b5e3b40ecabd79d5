-- What a shelf over the system's files and a sink over standard output keep.
use Rattle.std.specs.Prelude.{ℕ}
use Rattle.exb_shelf.specs.declared.files.FileShelf.{FileShelf}
use Rattle.exb_shelf.specs.declared.files.OutSink.{OutSink}
use Rattle.exb_shelf.specs.Shelf.{Id, Faults}
use Rattle.exb_shelf.specs.OpenFiles.{id_at}

abbrev pub system_ids : FileShelf → ℕ → Id
system_ids s = id_at s.entries.items

abbrev pub system_faults : FileShelf → Faults
system_faults s = record { missing = s.missing; reads = s.reads; writes = s.writes }

abbrev pub sink_faults : OutSink → ℕ
sink_faults s = s.faults
