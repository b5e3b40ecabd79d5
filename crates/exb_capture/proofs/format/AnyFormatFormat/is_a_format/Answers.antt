use Rattle.exb_capture.proofs.CaptureLemmas.{captures_are_a_format}
use Rattle.exb_capture.proofs.format.AnyFormatFormat.is_a_format.Goals as goal

pub returns : goal.returns
returns c = captures_are_a_format
