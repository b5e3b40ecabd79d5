use Rattle.std.proofs.Common.{drop}
use Rattle.exb_world_spec.specs.Effects.{each}
use Rattle.exb_world_spec.specs.ControlFrames.{asks}
use Rattle.exb_bridge.specs.RemainingEffects.{Leads}
use Rattle.exb_bridge.specs.BridgeWorlds.{whole, world_in, IsAt}
use Rattle.exb_bridge.proofs.requests.ask_all.Given as goal

-- those that are left lead to the whole
abbrev pub invariant-loop-one : goal.invariant-loop-one
invariant-loop-one g l =
    Leads (each (asks l.site.tree) l.asked (world_in (whole g.rest l.fn.bridge))) (each (asks l.site.tree) (drop l.one-index l.asked) (world_in (whole g.rest l.bridge))) l.fn.post.log l.post.log × IsAt l.site (whole g.rest l.bridge)

abbrev pub ghost-ask : goal.ghost-ask
ghost-ask g a = g.rest
