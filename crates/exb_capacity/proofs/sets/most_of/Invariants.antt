use Rattle.std.proofs.Common.{◌≡◌, map}
use Rattle.exb_model.specs.Configuration.{Bridge}
use Rattle.exb_control_spec.specs.Plans.Sets.{sets_of, seen}
use Rattle.exb_capacity.specs.NeededNumbers.{sets_below}
use Rattle.exb_capacity.proofs.FullestPort.{most_before}
use Rattle.exb_capacity.proofs.sets.most_of.Given as goal

-- of the ports so far
abbrev pub invariant-loop-place : goal.invariant-loop-place
invariant-loop-place l = (b : Bridge) → map seen l.sets ≡ sets_of l.tree b → l.most ≡ most_before l.tree (sets_below l.tree b) l.place
