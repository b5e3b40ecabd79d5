-- Which files an audit opens.
use Rattle.std.specs.Prelude.{◌⊎◌}
use Rattle.exb_audit_files.specs.FrameFiles.{ReadsOneOf}
use Rattle.exb_shelf.specs.Shelf.{Id, IsReadingOf}
use Rattle.exb_journal.specs.FileNames.{journal_name, trace_name}
use Rattle.exb_audit_files.specs.Scopes.{Scope, capture_files, output_files}

-- an id to read a capture, an output file of an external port, the journal or the trace
abbrev pub ReadsEvidence : Scope → Id → Type 0
ReadsEvidence s i =
    ReadsOneOf (capture_files s.captures) i
    ⊎ ReadsOneOf (output_files s.tree s.prefix) i
    ⊎ IsReadingOf (journal_name s.prefix) i
    ⊎ IsReadingOf (trace_name s.prefix) i
