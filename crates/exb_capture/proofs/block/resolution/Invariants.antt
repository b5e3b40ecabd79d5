use Rattle.std.proofs.Common.{◌≡◌, ◌≤◌, ◌-◌, ◌%◌, None}
use Rattle.exb_capture.specs.Blocks.{resolution_from}
use Rattle.exb_capture.specs.FieldRanges.{HasDigits}
use Rattle.exb_capture.proofs.block.resolution.Given as goal

abbrev pub invariant-options : goal.invariant-options
invariant-options l = record {
  same : resolution_from l.order l.first l.at l.to l.block ≡ resolution_from l.order None 16 l.to l.block;
  fours : l.at % 4 ≡ 0;
  within : l.at ≤ l.to;
  digits : HasDigits l.first;
}

abbrev pub decreases-options : goal.decreases-options
decreases-options l = l.to - l.at
