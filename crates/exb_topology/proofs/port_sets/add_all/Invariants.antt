use Rattle.std.proofs.Common.{◌≡◌, ℕ, ◌&&◌, ◌||◌, ◌/◌, nat_lt}
use Rattle.exb_model.specs.Ports.{port_in}
use Rattle.exb_topology.proofs.port_sets.add_all.Given as goal

abbrev pub invariant-loop-device : goal.invariant-loop-device
invariant-loop-device l = (q : ℕ) → port_in l.set q ≡ (port_in l.initial.set q || (nat_lt (q / 64) l.device && port_in l.from q))
