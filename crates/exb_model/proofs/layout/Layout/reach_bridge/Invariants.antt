use Rattle.std.proofs.Common.{ℕ, ◌<◌, IsTrue, slice_index}
use Rattle.exb_model.specs.Tree.{is_extender, top}
use Rattle.exb_model.proofs.layout.Layout.reach_bridge.Given as goal

abbrev pub invariant-loop-number : goal.invariant-loop-number
invariant-loop-number l = (n : ℕ) → n < l.number → IsTrue (is_extender l.self n) → top l.self.on 63 (slice_index l.self.on n) < 64
