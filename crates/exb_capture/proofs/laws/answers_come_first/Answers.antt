use Rattle.std.proofs.Common.{arith}
use Rattle.exb_capture.specs.Blocks.{most_held}
use Rattle.exb_capture.specs.Captures.{capture_front}
use Rattle.exb_capture.proofs.CaptureLemmas.{captures_are_a_format}
use Rattle.exb_capture.proofs.PieceLaws.{asked_roomy}
use Rattle.exb_capture.proofs.TurnLemmas.{asked_reads}
use Rattle.exb_capture.proofs.laws.answers_come_first.Goals as goal

pub returns : goal.returns
returns c = record {
  first = asked_reads most_held capture_front captures_are_a_format;
  more = λ ended r. asked_roomy most_held capture_front captures_are_a_format ended r (omega arith);
}
