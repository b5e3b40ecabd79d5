use Rattle.std.proofs.Common.{◌-◌}
use Rattle.exb_plan.specs.SpaceContents.{HasSpaces}
use Rattle.exb_control.proofs.Copies.{AreCopied}
use Rattle.exb_control.proofs.space_copies.copy_spaces.Given as goal

-- the spaces so far
abbrev pub invariant-loop-bridge_port : goal.invariant-loop-bridge_port
invariant-loop-bridge_port l = record {
  has : HasSpaces l.tree (record { channels = l.channels; groups = l.groups }) l.made;
  same : AreCopied l.tree l.spaces (l.bridge_port - 1) l.made;
}
