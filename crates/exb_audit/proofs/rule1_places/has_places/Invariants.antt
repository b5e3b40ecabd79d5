use Rattle.std.proofs.Common.{◌≡◌, ◌≤◌, take, length}
use Rattle.exb_model.specs.Tree.{Shape}
use Rattle.exb_audit.specs.Rule1Places.{IsToldSoFar}
use Rattle.exb_audit.proofs.rule1_places.has_places.Given as goal

abbrev pub invariant-loop-line : goal.invariant-loop-line
invariant-loop-line l = record {
  low : l.count ≤ length l.journal;
  so_far : (t : Shape) → t.ports ≡ l.ports → IsToldSoFar t l.journal (take l.line-index l.trace) l.count;
}
