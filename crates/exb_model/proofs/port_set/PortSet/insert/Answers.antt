use Rattle.std.proofs.Common.{arith, ◌∙◌}
use Rattle.std.proofs.lemmas.List.{length-set}
use Rattle.exb_model.proofs.PortBits.{has_port-insert, fits-insert}
use Rattle.exb_model.proofs.port_set.PortSet.insert.Goals as goal

pub returns : goal.returns
returns c q = rw (c.device.ensures.value, c.place.ensures.value) (has_port-insert c.args.self.now.words c.args.port q (omega arith))

pub invariant_of-self : goal.invariant_of-self
invariant_of-self c =
    record {
      fits = fits-insert c.args.self.now.words c.device.result c.place.result c.args.self.now.fits;
      sized = length-set c.args.self.now.words c.device.result _ ∙ c.args.self.now.sized;
    }
