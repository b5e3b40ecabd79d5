use Rattle.std.proofs.Common.{length-set, ◌∙◌, arith}
use Rattle.exb_topology.proofs.PortSets.{has_device, fits_device}
use Rattle.exb_topology.proofs.port_sets.add_device.Goals as goal

pub invariant_of-set : goal.invariant_of-set
invariant_of-set c = record {
  fits = fits_device c.args.set.now.words c.args.from.now.words c.args.device (omega (arith, c.requires, c.args.set.now.sized)) c.args.set.now.fits c.args.from.now.fits;
  sized = length-set c.args.set.now.words c.args.device _ ∙ c.args.set.now.sized;
}

pub returns : goal.returns
returns c q = has_device c.args.set.now.words c.args.from.now.words c.args.device q (omega (arith, c.requires, c.args.set.now.sized))
