use Rattle.exb_capture.proofs.OutputCaptureLemmas.{all_written, either_written}
use Rattle.exb_capture.proofs.laws.written_is_read.Goals as goal

pub returns : goal.returns
returns c = record { classic = all_written; either = either_written }
