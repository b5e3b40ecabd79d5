use Rattle.std.proofs.Common.{◌≡◌, ◌++◌, length}
use Rattle.std.specs.Prelude.{reverse}
use Rattle.exb_net_file.proofs.net_parts.turned.Given as goal

-- What is turned and what is left, turned, are all.
abbrev pub invariant-loop-member : goal.invariant-loop-member
invariant-loop-member l = l.back ++ reverse l.members ≡ reverse l.fn.members

abbrev pub decreases-loop-member : goal.decreases-loop-member
decreases-loop-member l = length l.members
