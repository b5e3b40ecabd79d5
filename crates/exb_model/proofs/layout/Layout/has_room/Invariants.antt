use Rattle.std.proofs.Common.{ℕ, ◌<◌, ◌≤◌}
use Rattle.exb_model.specs.Tree.{cascades_under}
use Rattle.exb_model.proofs.layout.Layout.has_room.Given as goal

abbrev pub invariant-loop-bridge_port : goal.invariant-loop-bridge_port
invariant-loop-bridge_port l = (k : ℕ) → k < l.bridge_port → cascades_under l.self k ≤ l.channels
