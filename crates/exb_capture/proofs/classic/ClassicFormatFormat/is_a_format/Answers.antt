use Rattle.exb_capture.proofs.ClassicLemmas.{classic_is_a_format}
use Rattle.exb_capture.proofs.classic.ClassicFormatFormat.is_a_format.Goals as goal

pub returns : goal.returns
returns c = classic_is_a_format
