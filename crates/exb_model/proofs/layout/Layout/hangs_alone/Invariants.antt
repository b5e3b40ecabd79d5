use Rattle.std.proofs.Common.{ℕ, ◌<◌, ◌≢◌, IsTrue, slice_index}
use Rattle.exb_model.specs.Tree.{is_extender}
use Rattle.exb_model.proofs.layout.Layout.hangs_alone.Given as goal

abbrev pub invariant-loop-lower : goal.invariant-loop-lower
invariant-loop-lower l = (n : ℕ) → n < l.lower → IsTrue (is_extender l.self n) → slice_index l.self.on n ≢ slice_index l.self.on l.number
