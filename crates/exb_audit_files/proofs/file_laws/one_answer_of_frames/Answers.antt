use Rattle.exb_audit_files.proofs.FrameFiles.{one_reading, read_or_fault, one_fault}
use Rattle.exb_audit_files.proofs.file_laws.one_answer_of_frames.Goals as goal

pub returns-clause-frames : goal.returns-clause-frames
returns-clause-frames c = λ read file limit files f g h k. λ i p. one_reading read file files f g h.each k.each p i

pub returns-clause-apart : goal.returns-clause-apart
returns-clause-apart c = read_or_fault

pub returns-clause-fault : goal.returns-clause-fault
returns-clause-fault c = one_fault
