use Rattle.std.proofs.Common.{refl}
use Rattle.exb_model.specs.PortBits.{has_port}
use Rattle.exb_model.proofs.MaskLemmas.{word_is}
use Rattle.exb_model.proofs.port_set.PortSet.mask.Goals as goal

pub returns : goal.returns
returns c = word_is c.args.self.now.words (has_port c.args.self.now.words) c.args.device (c.args.self.now.fits c.args.device) (λ q. refl)
