use Rattle.std.proofs.Common.{◌≡◌, ◌-◌}
use Rattle.exb_control.specs.MachineSteps.{unheard_to}
use Rattle.exb_control.proofs.announcements.Heard.unheard.Given as goal

abbrev pub invariant-loop-number : goal.invariant-loop-number
invariant-loop-number l = l.count ≡ unheard_to l.tree l.self (l.number - 1)
