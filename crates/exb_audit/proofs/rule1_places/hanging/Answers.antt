use Rattle.std.proofs.Common.{ℕ, refl, ap, replicate}
use Rattle.exb_model.specs.Setup.{lay, port_at, shape_of}
use Rattle.exb_audit.proofs.rule1_places.hanging.Goals as goal

pub loop-extender-init : goal.loop-extender-init
unfolding shape_of
loop-extender-init c = record {
  sized = refl;
  laid = ap (λ (p : ℕ). lay (λ e. port_at e.on) (replicate 65 p) c.args.setup.now.extenders) c.at-first.ensures;
}
