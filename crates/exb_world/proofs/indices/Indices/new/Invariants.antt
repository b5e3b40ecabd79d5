use Rattle.std.proofs.Common.{◌≡◌, replicate}
use Rattle.exb_world.proofs.indices.Indices.new.Given as goal

abbrev pub invariant-loop : goal.invariant-loop
invariant-loop l = l.next.items ≡ replicate l.counter 1
