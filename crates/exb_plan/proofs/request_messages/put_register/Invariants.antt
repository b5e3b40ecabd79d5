use Rattle.std.proofs.Common.{◌≡◌, take}
use Rattle.exb_plan.proofs.request_messages.put_register.Given as goal

-- the rows so far are pushed
abbrev pub invariant-loop-row : goal.invariant-loop-row
invariant-loop-row l = l.many ≡ take l.row-index l.rows
