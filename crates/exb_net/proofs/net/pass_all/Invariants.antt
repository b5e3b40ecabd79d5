use Rattle.std.proofs.Common.{◌≤◌}
use Rattle.exb_net.specs.Nodes.{HasPassed}
use Rattle.exb_net.proofs.ListPlaces.{AreSoFar}
use Rattle.exb_net.proofs.net.pass_all.Given as goal

-- Those so far are so many seconds on.
abbrev pub invariant-loop-node : goal.invariant-loop-node
invariant-loop-node g l = record {
  done : AreSoFar (λ b x y. HasPassed l.seconds x.world y.world x.ends.items y.ends.items) l.node-index l.fn.nodes.items l.node-items;
  falls : AreSoFar (λ b x y. (goal.Fate-dyn g (y.fate.vtable, y.fate.value)).left y.fate.value ≤ (goal.Fate-dyn g (x.fate.vtable, x.fate.value)).left x.fate.value) l.node-index l.fn.nodes.items l.node-items;
}
