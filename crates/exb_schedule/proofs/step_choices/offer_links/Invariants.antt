use Rattle.std.proofs.Common.{◌≤◌, ◌-◌}
use Rattle.exb_schedule.proofs.step_choices.offer_links.Given as goal

abbrev pub invariant-links : goal.invariant-links
invariant-links l = l.from ≤ 65

abbrev pub decreases-links : goal.decreases-links
decreases-links l = 65 - l.from
