use Rattle.std.proofs.Common.{refl}
use Rattle.exb_model.specs.Setup.{shape_of}
use Rattle.exb_model.proofs.Validity.{few_first}
use Rattle.exb_model.proofs.setup.Setup.port_counts.Goals as goal

pub loop-extender-init : goal.loop-extender-init
unfolding shape_of
loop-extender-init c = record {
  sized = refl;
  few = λ n. few_first c.args.self.now.ports n c.requires.ports;
  laid = refl;
}
