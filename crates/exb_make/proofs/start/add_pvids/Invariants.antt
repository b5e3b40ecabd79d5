use Rattle.std.proofs.Common.{take}
use Rattle.exb_make.specs.Draws.{Adds, for_each}
use Rattle.exb_make.specs.DrawOrder.{pvid}
use Rattle.exb_make.proofs.start.add_pvids.Given as goal

-- for the ports so far
abbrev pub invariant-loop-port : goal.invariant-loop-port
invariant-loop-port l = Adds (for_each pvid (take l.port-index l.places)) l.fn.start l.start l.fn.rng l.rng
