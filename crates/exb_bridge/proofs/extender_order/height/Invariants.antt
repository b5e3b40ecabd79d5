use Rattle.std.proofs.Common.{◌≡◌, ◌+◌, ◌-◌, ◌≤◌, length}
use Rattle.exb_model.specs.Tree.{up, path}
use Rattle.exb_bridge.proofs.extender_order.height.Given as goal

-- the ports so far and those still above are those above `from`
abbrev pub invariant-loop-step : goal.invariant-loop-step
invariant-loop-step l = (l.count ≤ l._step + 1) × (l.count + length (up l.on (64 - l._step) l.at) ≡ 1 + length (path l.on l.fn.from))
