use Rattle.std.proofs.Common.{◌≡◌, replicate}
use Rattle.exb_ecp.specs.StopAndWait.{new_state}
use Rattle.exb_ecp.proofs.ends.Ends.new.Given as goal

abbrev pub invariant-loop : goal.invariant-loop
invariant-loop l = l.ends.items ≡ replicate l.counter new_state
