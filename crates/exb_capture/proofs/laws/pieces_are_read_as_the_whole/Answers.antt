use Rattle.exb_capture.specs.Blocks.{block_front, no_section, most_held}
use Rattle.exb_capture.specs.declared.format.AnyFormat.TheVariants.{Unknown}
use Rattle.exb_capture.specs.Captures.{capture_front}
use Rattle.exb_capture.specs.declared.classic.ClassicFormat.TheVariants.{Start}
use Rattle.exb_capture.specs.Classic.{classic_front}
use Rattle.exb_capture.proofs.BlockLemmas.{blocks_are_a_format}
use Rattle.exb_capture.proofs.CaptureLemmas.{captures_are_a_format}
use Rattle.exb_capture.proofs.ClassicLemmas.{classic_is_a_format}
use Rattle.exb_capture.proofs.PieceLaws.{pieces_read, records_read}
use Rattle.exb_capture.proofs.laws.pieces_are_read_as_the_whole.Goals as goal

pub returns : goal.returns
returns c = record {
  classic = pieces_read most_held classic_front classic_is_a_format Start;
  blocks = pieces_read most_held block_front blocks_are_a_format no_section;
  captures = pieces_read most_held capture_front captures_are_a_format Unknown;
  records = records_read most_held capture_front captures_are_a_format Unknown;
}
