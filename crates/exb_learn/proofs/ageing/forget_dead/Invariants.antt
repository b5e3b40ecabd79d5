use Rattle.std.proofs.Common.{◌≡◌, length}
use Rattle.exb_learn.specs.Stations.{is_live, KeepsAlike}
use Rattle.exb_learn.proofs.ageing.forget_dead.Given as goal

abbrev pub invariant-loop-slot : goal.invariant-loop-slot
invariant-loop-slot l = KeepsAlike (is_live l.clock l.ageing) l.fn.store.entries l.store.entries × (l.store.room ≡ l.fn.store.room)

abbrev pub decreases-loop-slot : goal.decreases-loop-slot
decreases-loop-slot l = length l.store.entries
