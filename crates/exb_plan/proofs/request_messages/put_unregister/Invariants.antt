use Rattle.std.proofs.Common.{◌≡◌, take}
use Rattle.exb_control_spec.specs.Plans.ChangeRequests.{numbers_of}
use Rattle.exb_plan.proofs.request_messages.put_unregister.Given as goal

-- the numbers so far are pushed
abbrev pub invariant-loop-row : goal.invariant-loop-row
invariant-loop-row l = l.many ≡ numbers_of (take l.row-index l.rows)
