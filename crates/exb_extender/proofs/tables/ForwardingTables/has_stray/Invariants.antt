use Rattle.std.proofs.Common.{◌≡◌, ℕ, ◌==◌, ◌&&◌, get_or}
use Rattle.exb_csp.specs.Execution.{in_mask}
use Rattle.exb_extender.proofs.tables.ForwardingTables.has_stray.Given as goal

-- those of the ports that have no channel are all among what is left
abbrev pub invariant-ports : goal.invariant-ports
invariant-ports l = (q : ℕ) → (in_mask l.mask q && (get_or l.self.own q 0 == 0)) ≡ (in_mask l.left q && (get_or l.self.own q 0 == 0))

abbrev pub decreases-ports : goal.decreases-ports
decreases-ports l = l.left
