use Rattle.std.proofs.Common.{◌-◌}
use Rattle.std.specs.List.{range_with_len}
use Rattle.exb_make.specs.Draws.{Adds, for_each}
use Rattle.exb_make.specs.DrawOrder.{members}
use Rattle.exb_make.proofs.start.add_memberships.Given as goal

-- for the VLANs so far
abbrev pub invariant-loop-number : goal.invariant-loop-number
invariant-loop-number l = Adds (for_each members (range_with_len 1 (l.number - 1))) l.fn.start l.start l.fn.rng l.rng
