use Rattle.std.proofs.Common.{◌≡◌, drop}
use Rattle.exb_inputs.specs.ReplayStart.{earliest_told}
use Rattle.exb_inputs.proofs.replay_start.earliest_in.Given as goal

abbrev pub invariant-telling : goal.invariant-telling
invariant-telling l = earliest_told l.least (drop l.one-index l.checked) ≡ earliest_told l.fn.before l.checked
