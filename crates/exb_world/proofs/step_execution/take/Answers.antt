use Rattle.std.proofs.Common.{refl}
use Rattle.exb_world.proofs.step_execution.take.Goals as goal

pub take_up-requires : goal.take_up-requires
take_up-requires c = (refl, (c.requires.at, (c.requires.there, c.requires.asks)))
