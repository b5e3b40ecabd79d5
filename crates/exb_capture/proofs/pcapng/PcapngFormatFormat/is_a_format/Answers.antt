use Rattle.exb_capture.proofs.BlockLemmas.{blocks_are_a_format}
use Rattle.exb_capture.proofs.pcapng.PcapngFormatFormat.is_a_format.Goals as goal

pub returns : goal.returns
returns c = blocks_are_a_format
