use Rattle.std.proofs.Common.{bit_and, w64, arith, refl, ◌∙◌}
use Rattle.std.specs.Int.{bit_not}
use Rattle.std.proofs.lemmas.List.{length-set}
use Rattle.exb_model.proofs.JoinedWords.{joined_first, joined_more, except_port, joined_fits, except_below}
use Rattle.exb_model.proofs.port_set.PortSet.except.Goals as goal

pub loop-device-init : goal.loop-device-init
loop-device-init c = record { joined = joined_first (λ x y. bit_and x (bit_not w64 y)) c.args.self.now.words c.args.other.now.words; sized = refl }

pub loop-device-preserved : goal.loop-device-preserved
loop-device-preserved c = record {
  joined = joined_more (λ x y. bit_and x (bit_not w64 y)) c.args.self.now.words c.args.other.now.words c.loop-device.words c.loop-device.device (omega arith) c.loop-device.invariant.joined;
  sized = length-set c.loop-device.words c.loop-device.device _ ∙ c.loop-device.invariant.sized;
}

pub invariant_of-result : goal.invariant_of-result
invariant_of-result c = record {
  fits = joined_fits (λ x y. bit_and x (bit_not w64 y)) c.args.self.now.words c.args.other.now.words c.loop-device.words c.loop-device.device except_below c.loop-device.invariant.joined (omega arith) c.args.self.now.fits;
  sized = c.loop-device.invariant.sized;
}

pub returns : goal.returns
returns c = except_port c.args.self.now.words c.args.other.now.words c.loop-device.words c.loop-device.device c.loop-device.invariant.joined (omega arith) c.args.self.now.sized c.args.other.now.fits
