use Rattle.std.proofs.Common.{refl}
use Rattle.exb_model.specs.Setup.{shape_of}
use Rattle.exb_bridge.proofs.tree_index.port_counts.Goals as goal

pub loop-extender-init : goal.loop-extender-init
unfolding shape_of
loop-extender-init c = record {
  sized = refl;
  ports = refl;
}
