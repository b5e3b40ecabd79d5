use Rattle.std.proofs.Common.{ℕ, replicate, ◌∙◌}
use Rattle.std.proofs.lemmas.List.{length-set, length-replicate}
use Rattle.exb_model.proofs.PortBits.{has_port-of_device, fits-of_device}
use Rattle.exb_model.proofs.port_set.PortSet.of_device.Goals as goal

pub invariant_of-result : goal.invariant_of-result
invariant_of-result c =
    record {
      fits = fits-of_device c.args.self.now.words c.args.device c.args.self.now.fits;
      sized = length-set (replicate 65 0) c.args.device _ ∙ length-replicate {A = ℕ} 65 0;
    }

pub returns : goal.returns
returns c q = has_port-of_device 65 c.args.self.now.words c.args.device q c.requires
