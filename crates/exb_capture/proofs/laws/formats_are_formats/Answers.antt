use Rattle.exb_capture.proofs.BlockLemmas.{blocks_are_a_format}
use Rattle.exb_capture.proofs.CaptureLemmas.{captures_are_a_format}
use Rattle.exb_capture.proofs.ClassicLemmas.{classic_is_a_format}
use Rattle.exb_capture.proofs.laws.formats_are_formats.Goals as goal

pub returns : goal.returns
returns c = record { classic = classic_is_a_format; blocks = blocks_are_a_format; captures = captures_are_a_format }
