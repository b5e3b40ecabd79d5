use Rattle.exb_trace_spec.specs.TraceTexts.{read_line}
use Rattle.exb_audit_files.specs.Lines.{IsTrace}
use Rattle.exb_audit_files.proofs.UniqueAnswers.{trace_lines, lines_or_fault, one_holding, one_trace, one_lines_fault}
use Rattle.exb_audit_files.proofs.file_laws.one_answer_of_traces.Goals as goal

pub returns-clause-lines : goal.returns-clause-lines
returns-clause-lines c = one_holding IsTrace one_trace

pub returns-clause-apart : goal.returns-clause-apart
returns-clause-apart c = lines_or_fault read_line IsTrace trace_lines

pub returns-clause-fault : goal.returns-clause-fault
returns-clause-fault c = one_lines_fault read_line
