use Rattle.std.proofs.Common.{take}
use Rattle.exb_make.specs.Draws.{Adds, for_each}
use Rattle.exb_make.specs.DrawOrder.{membership}
use Rattle.exb_make.proofs.start.add_members.Given as goal

-- for the ports so far
abbrev pub invariant-loop-port : goal.invariant-loop-port
invariant-loop-port l = Adds (for_each (membership l.vid) (take l.port-index l.places)) l.fn.start l.start l.fn.rng l.rng
