use Rattle.std.proofs.Common.{◌≡◌, ◌++◌, map, drop}
use Rattle.exb_extender.specs.SentFrames.{out_sent}
use Rattle.exb_world_spec.specs.Effects.{each}
use Rattle.exb_world_spec.specs.ExtenderSteps.{sends}
use Rattle.exb_bridge.specs.RemainingEffects.{Leads}
use Rattle.exb_world.specs.ExtenderEgress.{row_sent, AreOuter}
use Rattle.exb_outbox.specs.PortMaps.{ports_in}
use Rattle.exb_bridge.specs.BridgeWorlds.{world_in, IsAt}
use Rattle.exb_world.specs.MachineWorlds.{whole_of}
use Rattle.exb_world.proofs.extender_sends.send_frames.Given as goal

-- at the ports of the row, and then in the forms that are left, it leads from here to the whole
abbrev pub invariant-loop-out : goal.invariant-loop-out
invariant-loop-out l = record {
  leads : Leads (each (sends l.site.tree l.number l.came.stamp) (map (out_sent l.came.frame.now) l.outs) (world_in (whole_of l.initial.core)))
      (each (sends l.site.tree l.number l.came.stamp) (row_sent l.came.frame.now (ports_in l.row) ++ map (out_sent l.came.frame.now) (drop l.out-index l.outs)) (world_in (whole_of l.core))) l.initial.post.log l.post.log;
  at : IsAt l.site (whole_of l.core);
  device : l.row.device ≡ l.number;
  outer : AreOuter l.site.tree l.number l.came.frame.now (ports_in l.row);
}
