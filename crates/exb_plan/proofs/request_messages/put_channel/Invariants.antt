use Rattle.std.proofs.Common.{◌≡◌, ◌++◌, take}
use Rattle.std.specs.List.{flat_map}
use Rattle.exb_control_spec.specs.Plans.ChangeRequests.{put_above}
use Rattle.exb_plan.proofs.request_messages.put_channel.Given as goal

-- the ancestors so far are asked
abbrev pub invariant-loop-row : goal.invariant-loop-row
invariant-loop-row l = l.asks ≡ l.fn.asks ++ flat_map (put_above l.step l.own l.channel) (take l.row-index l.rows)
