use Rattle.exb_trace_spec.specs.JournalLines.{entry_in}
use Rattle.exb_audit_files.specs.Lines.{IsJournal}
use Rattle.exb_audit_files.proofs.UniqueAnswers.{journal_lines, lines_or_fault, one_holding, one_journal, one_lines_fault}
use Rattle.exb_audit_files.proofs.file_laws.one_answer_of_journals.Goals as goal

pub returns-clause-lines : goal.returns-clause-lines
returns-clause-lines c = one_holding IsJournal one_journal

pub returns-clause-apart : goal.returns-clause-apart
returns-clause-apart c = lines_or_fault entry_in IsJournal journal_lines

pub returns-clause-fault : goal.returns-clause-fault
returns-clause-fault c = one_lines_fault entry_in
