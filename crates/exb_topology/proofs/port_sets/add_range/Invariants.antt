use Rattle.std.proofs.Common.{◌≡◌, ◌⊎◌, ℕ, ◌+◌, ◌≤◌, ◌&&◌, ◌||◌, nat_le, nat_lt}
use Rattle.exb_model.specs.Ports.{port_in}
use Rattle.exb_topology.proofs.port_sets.add_range.Given as goal

abbrev pub invariant-loop-number : goal.invariant-loop-number
invariant-loop-number l = record {
  bound : (l.number ≤ l.fn.last + 1) ⊎ (l.number ≡ l.fn.first);
  found : (q : ℕ) → port_in l.set q ≡ (port_in l.initial.set q || ((nat_le l.fn.first q && nat_lt q l.number) && port_in l.from q));
}
