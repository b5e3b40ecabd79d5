use Rattle.std.proofs.Common.{ℕ, ◌<◌, ◌≢◌, IsTrue, slice_index}
use Rattle.exb_model.specs.Tree.{is_extender}
use Rattle.exb_model.proofs.layout.Layout.hang_alone.Given as goal

abbrev pub invariant-loop-number : goal.invariant-loop-number
invariant-loop-number l = (n m : ℕ) → n < m → m < l.number → IsTrue (is_extender l.self n) → IsTrue (is_extender l.self m) → slice_index l.self.on n ≢ slice_index l.self.on m
