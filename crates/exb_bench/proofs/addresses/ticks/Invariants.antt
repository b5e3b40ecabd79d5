use Rattle.std.proofs.Common.{◌≡◌}
use Rattle.exb_bench.proofs.addresses.ticks.Given as goal

abbrev pub invariant-loop-time : goal.invariant-loop-time
invariant-loop-time g l = l.learned.clock ≡ l.time
