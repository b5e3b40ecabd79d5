use Rattle.exb_capture.proofs.CaptureLemmas.{read_as_blocks, read_as_classic, few_read}
use Rattle.exb_capture.proofs.laws.each_is_read.Goals as goal

pub returns : goal.returns
returns c = record { blocks = read_as_blocks; classic = read_as_classic; few = few_read }
