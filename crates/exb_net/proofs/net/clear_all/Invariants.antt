use Rattle.std.proofs.Common.{◌-◌, ◌≤◌, length}
use Rattle.exb_net.specs.Nodes.{HasForgotten}
use Rattle.exb_net.proofs.ListPlaces.{AreSoFar}
use Rattle.exb_net.proofs.net.clear_all.Given as goal

-- Those so far have forgotten.
abbrev pub invariant-clearing : goal.invariant-clearing
invariant-clearing g l = record {
  done : AreSoFar (λ b x y. HasForgotten x.world y.world x.ends.items y.ends.items) l.from l.fn.nodes.items l.nodes.items;
  falls : AreSoFar (λ b x y. (goal.Fate-dyn g (y.fate.vtable, y.fate.value)).left y.fate.value ≤ (goal.Fate-dyn g (x.fate.vtable, x.fate.value)).left x.fate.value) l.from l.fn.nodes.items l.nodes.items;
}

abbrev pub decreases-clearing : goal.decreases-clearing
decreases-clearing g l = length l.fn.nodes.items - l.from
