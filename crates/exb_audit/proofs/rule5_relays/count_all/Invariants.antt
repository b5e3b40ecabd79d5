use Rattle.std.proofs.Common.{◌≡◌, take, length}
use Rattle.std.specs.Prelude.{All}
use Rattle.exb_audit.specs.Rule5Relays.{AreCounts, HasLowSide}
use Rattle.exb_audit.proofs.rule5_relays.count_all.Given as goal

abbrev pub invariant-loop-line : goal.invariant-loop-line
invariant-loop-line l = record {
  sized : length l.counts ≡ 256;
  low : All HasLowSide (take l.line-index l.lines);
  so_far : AreCounts l.tree (take l.line-index l.lines) l.counts;
}
