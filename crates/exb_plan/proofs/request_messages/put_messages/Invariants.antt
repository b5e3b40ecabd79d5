use Rattle.std.proofs.Common.{◌≡◌, ◌++◌, length}
use Rattle.exb_control_spec.specs.Plans.ChangeRequests.{asks_with}
use Rattle.exb_plan.proofs.request_messages.put_messages.Given as goal

-- with what is left to ask they are all
abbrev pub invariant-loop-left : goal.invariant-loop-left
invariant-loop-left l = l.asks ++ asks_with l.step l.left l.extender ≡ l.fn.asks ++ asks_with l.step l.rows l.extender

abbrev pub decreases-loop-left : goal.decreases-loop-left
decreases-loop-left l = length l.left
