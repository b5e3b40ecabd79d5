use Rattle.std.proofs.Common.{ℕ, refl, arith}
use Rattle.exb_model.proofs.PortBits.{get_or-same}
use Rattle.exb_plan.proofs.SetPorts.{has_port-chosen, fits-chosen}
use Rattle.exb_plan.proofs.branches.Branches.under.Goals as goal

pub returns : goal.returns
returns c =
    has_port-chosen c.args.self.now.trunks c.args.set.now.words c.loop-device.words c.args.bridge_port c.args.set.now.sized c.loop-device.invariant.0
    (λ n l. c.loop-device.invariant.1 n (omega arith))

pub invariant_of-result : goal.invariant_of-result
invariant_of-result c =
    record {
      fits = fits-chosen c.args.self.now.trunks c.args.set.now.words c.loop-device.words c.args.bridge_port c.loop-device.invariant.0 c.args.set.now.fits
          (λ n l. c.loop-device.invariant.1 n (omega arith));
      sized = c.loop-device.invariant.0;
    }

pub loop-device-init : goal.loop-device-init
loop-device-init c = (refl, λ n h. absurd (omega arith), λ n h. get_or-same {X = ℕ} 65 n 0)
