use Rattle.std.proofs.Common.{refl}
use Rattle.exb_capture.proofs.replay.Replay.take.Goals as goal

pub take-requires-clause-found : goal.take-requires-clause-found
take-requires-clause-found c = let x = c.requires.found.next in (x.time, (x, c.requires.found.found, refl))
