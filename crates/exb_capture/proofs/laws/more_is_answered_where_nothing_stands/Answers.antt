use Rattle.exb_capture.specs.Blocks.{block_front, no_section, most_held}
use Rattle.exb_capture.specs.declared.format.AnyFormat.TheVariants.{Unknown}
use Rattle.exb_capture.specs.Captures.{capture_front}
use Rattle.exb_capture.specs.declared.classic.ClassicFormat.TheVariants.{Start}
use Rattle.exb_capture.specs.Classic.{classic_front}
use Rattle.exb_capture.proofs.BlockLemmas.{blocks_are_a_format}
use Rattle.exb_capture.proofs.CaptureLemmas.{captures_are_a_format}
use Rattle.exb_capture.proofs.ClassicLemmas.{classic_is_a_format}
use Rattle.exb_capture.proofs.PrefixLaws.{more_is_open}
use Rattle.exb_capture.proofs.laws.more_is_answered_where_nothing_stands.Goals as goal

pub returns : goal.returns
returns c = record {
  classic = more_is_open most_held classic_front classic_is_a_format Start;
  blocks = more_is_open most_held block_front blocks_are_a_format no_section;
  captures = more_is_open most_held capture_front captures_are_a_format Unknown;
}
