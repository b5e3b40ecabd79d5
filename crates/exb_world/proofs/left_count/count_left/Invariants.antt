use Rattle.std.proofs.Common.{◌≡◌, ◌≤◌, ◌*◌, length, take}
use Rattle.exb_bridge.specs.BridgeWorlds.{all_left}
use Rattle.exb_world.proofs.left_count.count_left.Given as goal

-- those so far, at most 64 of each
abbrev pub invariant-loop-frame : goal.invariant-loop-frame
invariant-loop-frame l = (l.total ≡ length (all_left (take l.frame-index l.left))) × (l.total ≤ 64 * l.frame-index)
