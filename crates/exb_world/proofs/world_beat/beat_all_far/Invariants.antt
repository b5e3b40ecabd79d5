use Rattle.std.proofs.Common.{◌-◌, ◌<◌, ◌≤◌}
use Rattle.exb_bridge.specs.BridgeWorlds.{world_in}
use Rattle.exb_world.specs.MachineWorlds.{whole_of}
use Rattle.exb_world.proofs.Beats.{FarLeft}
use Rattle.exb_world.proofs.world_beat.beat_all_far.Given as goal

-- those that are left lead to the whole
abbrev pub invariant-numbers : goal.invariant-numbers
invariant-numbers l = (0 < l.from) × (l.from ≤ 65) × FarLeft l.site.tree l.site (world_in (whole_of l.fn.core)) l.fn.room.post.log l.from (whole_of l.core) l.room.post.log

abbrev pub decreases-numbers : goal.decreases-numbers
decreases-numbers l = 65 - l.from
