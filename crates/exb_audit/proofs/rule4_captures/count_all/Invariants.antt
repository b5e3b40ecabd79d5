use Rattle.std.proofs.Common.{◌≡◌, take, length}
use Rattle.exb_audit.specs.Rule4Captures.{AreSoFar}
use Rattle.exb_audit.proofs.rule4_captures.count_all.Given as goal

abbrev pub invariant-loop-line : goal.invariant-loop-line
invariant-loop-line l = record {
  sized : length l.counts ≡ 4160;
  so_far : AreSoFar l.comes_in l.tree l.all (take l.line-index l.trace) l.counts;
}
