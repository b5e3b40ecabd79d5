use Rattle.exb_audit.proofs.Audits.{runs_are_audited}
use Rattle.exb_audit.proofs.laws.runs_are_audited.Goals as goal

pub returns : goal.returns
returns c =
    runs_are_audited c.all_are_judged.ensures c.legal_lines_are_spelled.ensures c.journals_are_lines.ensures c.traces_read_back.ensures c.written_is_read.ensures.classic c.flat_can_be_written.ensures
