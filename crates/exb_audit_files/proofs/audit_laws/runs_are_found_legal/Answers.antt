use Rattle.exb_audit_files.proofs.RunFiles.{runs_are_found_legal}
use Rattle.exb_audit_files.proofs.audit_laws.runs_are_found_legal.Goals as goal

pub returns : goal.returns
returns c =
    runs_are_found_legal c.legal_lines_are_spelled.ensures c.journals_are_lines.ensures c.traces_read_back.ensures c.written_is_read.ensures.classic c.flat_can_be_written.ensures
