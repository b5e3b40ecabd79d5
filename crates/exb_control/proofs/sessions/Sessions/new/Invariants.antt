use Rattle.std.proofs.Common.{◌≡◌, replicate}
use Rattle.exb_csp.specs.Sessions.AskingEnd.{begun}
use Rattle.exb_control.proofs.sessions.Sessions.new.Given as goal

abbrev pub invariant-loop : goal.invariant-loop
invariant-loop l = l.askers.items ≡ replicate l.counter begun
