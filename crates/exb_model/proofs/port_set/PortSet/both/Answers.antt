use Rattle.std.proofs.Common.{arith}
use Rattle.exb_model.proofs.SharedPorts.{has_port-both, fits-both}
use Rattle.exb_model.proofs.port_set.PortSet.both.Goals as goal

pub returns : goal.returns
returns c q =
    has_port-both c.args.self.now.words c.args.other.now.words c.loop-device.words c.args.self.now.sized c.loop-device.invariant.0
    (λ n l. c.loop-device.invariant.1 n (omega arith)) q

pub invariant_of-result : goal.invariant_of-result
invariant_of-result c =
    record {
      fits = fits-both c.args.self.now.words c.args.other.now.words c.loop-device.words c.loop-device.invariant.0 c.args.self.now.fits
          (λ n l. c.loop-device.invariant.1 n (omega arith));
      sized = c.loop-device.invariant.0;
    }
