use Rattle.std.proofs.Common.{◌≡◌, length}
use Rattle.exb_learn.specs.RingLinks.{in_table, IsClosed}
use Rattle.exb_learn.proofs.rings.grow.Given as goal

abbrev pub invariant-loop-node : goal.invariant-loop-node
invariant-loop-node l = IsClosed l.links.items × (in_table l.links.items ≡ in_table l.initial.links.items) × (length l.links.items ≡ l.node)
