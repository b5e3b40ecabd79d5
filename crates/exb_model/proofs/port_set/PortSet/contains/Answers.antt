use Rattle.std.proofs.Common.{◌%◌, ◌/◌, slice_index_or}
use Rattle.std.proofs.lemmas.Nat.Bits.{shr_and_one}
use Rattle.exb_model.specs.PortBits.{has_port}
use Rattle.exb_model.proofs.port_set.PortSet.contains.Goals as goal

pub returns : goal.returns
unfolding has_port
returns c = rw (c.device.ensures.value, c.place.ensures.value, shr_and_one (slice_index_or c.args.self.now.words (c.args.port / 64) 0) (c.args.port % 64))
