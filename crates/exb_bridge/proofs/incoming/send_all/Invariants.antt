use Rattle.std.proofs.Common.{drop}
use Rattle.exb_world_spec.specs.Effects.{each}
use Rattle.exb_world_spec.specs.DataFrames.{sends_in}
use Rattle.exb_bridge.specs.RemainingEffects.{Leads}
use Rattle.exb_bridge.specs.BridgeWorlds.{whole, world_in, IsAt}
use Rattle.exb_bridge.proofs.incoming.send_all.Given as goal

-- those that are left lead to the whole
abbrev pub invariant-loop-one : goal.invariant-loop-one
invariant-loop-one g l =
    Leads (each (sends_in l.site.tree l.arrival l.tag.vid) l.sends (world_in (whole g.rest l.fn.bridge)))
    (each (sends_in l.site.tree l.arrival l.tag.vid) (drop l.one-index l.sends) (world_in (whole g.rest l.bridge))) l.fn.post.log l.post.log × IsAt l.site (whole g.rest l.bridge)

abbrev pub ghost-send : goal.ghost-send
ghost-send g a = g.rest
