use Rattle.std.proofs.Common.{◌≡◌, ℕ, ◌||◌, drop}
use Rattle.exb_model.specs.Ports.{port_in}
use Rattle.exb_topology.specs.Checks.{listed}
use Rattle.exb_topology.proofs.port_sets.listed.Given as goal

abbrev pub invariant-loop-word : goal.invariant-loop-word
invariant-loop-word l = (q : ℕ) → (port_in l.set q || listed l.tree (drop l.word-index l.words) q) ≡ listed l.tree l.words q
