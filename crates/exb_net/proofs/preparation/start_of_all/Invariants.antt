use Rattle.std.proofs.Common.{take}
use Rattle.exb_inputs.proofs.FirstRecords.{IsLeastOf}
use Rattle.exb_net.specs.ReopenedCaptures.{seconds_of_all}
use Rattle.exb_net.proofs.preparation.start_of_all.Given as goal

-- The least second so far is that of the bridges so far.
abbrev pub invariant-loop-captures : goal.invariant-loop-captures
invariant-loop-captures l = IsLeastOf (seconds_of_all (take l.captures-index l.checked)) l.least
