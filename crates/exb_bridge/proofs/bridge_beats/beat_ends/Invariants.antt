use Rattle.std.proofs.Common.{◌-◌, ◌<◌, ◌≤◌}
use Rattle.exb_bridge.specs.BridgeWorlds.{whole, world_in}
use Rattle.exb_bridge.proofs.Beats.{NearLeft}
use Rattle.exb_bridge.proofs.bridge_beats.beat_ends.Given as goal

-- those that are left lead to the whole
abbrev pub invariant-numbers : goal.invariant-numbers
invariant-numbers g l = (0 < l.from) × (l.from ≤ 65) × NearLeft l.site.tree l.site (world_in (whole g.rest l.fn.bridge)) l.fn.post.log l.from (whole g.rest l.bridge) l.post.log

abbrev pub decreases-numbers : goal.decreases-numbers
decreases-numbers g l = 65 - l.from

abbrev pub ghost-beat_near_any : goal.ghost-beat_near_any
ghost-beat_near_any g a = g.rest
