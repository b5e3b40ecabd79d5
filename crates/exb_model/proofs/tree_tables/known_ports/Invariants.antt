use Rattle.std.proofs.Common.{◌≡◌, ℕ, ◌&&◌, nat_lt}
use Rattle.exb_model.specs.PortBits.{has_port}
use Rattle.exb_model.specs.Tree.{is_port}
use Rattle.exb_model.proofs.tree_tables.known_ports.Given as goal

-- the ports of the tree so far
abbrev pub invariant-loop-number : goal.invariant-loop-number
invariant-loop-number l = (q : ℕ) → has_port l.known.words q ≡ (nat_lt q l.number && is_port l.layout q)
