use Rattle.std.proofs.Common.{◌≡◌}
use Rattle.exb_capacity.specs.NeededNumbers.{channels_below}
use Rattle.exb_capacity.proofs.FullestPort.{most_before}
use Rattle.exb_capacity.proofs.channels.channels.Given as goal

-- of the ports so far
abbrev pub invariant-loop-place : goal.invariant-loop-place
invariant-loop-place l = l.most ≡ most_before l.tree (channels_below l.tree) l.place
