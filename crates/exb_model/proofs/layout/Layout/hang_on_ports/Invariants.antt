use Rattle.std.proofs.Common.{ℕ, ◌<◌, IsTrue, slice_index}
use Rattle.exb_model.specs.Tree.{is_port, is_extender}
use Rattle.exb_model.proofs.layout.Layout.hang_on_ports.Given as goal

abbrev pub invariant-loop-number : goal.invariant-loop-number
invariant-loop-number l = (n : ℕ) → n < l.number → IsTrue (is_extender l.self n) → IsTrue (is_port l.self (slice_index l.self.on n))
