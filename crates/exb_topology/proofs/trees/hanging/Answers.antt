use Rattle.std.proofs.Common.{refl, arith, ℕ}
use Rattle.exb_model.specs.Setup.{shape_of}
use Rattle.exb_model.proofs.PortBits.{get_or-same}
use Rattle.exb_topology.proofs.trees.hanging.Goals as goal

pub loop-extender-init : goal.loop-extender-init
unfolding shape_of
loop-extender-init c = record {
  sized = refl;
  fits = λ n. omega (arith, get_or-same {X = ℕ} 65 n 0);
  on = refl;
}
