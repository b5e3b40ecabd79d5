use Rattle.std.proofs.Common.{◌≡◌, ◌-◌, ◌+◌}
use Rattle.exb_model.specs.Ports.{port_in}
use Rattle.exb_topology.specs.Checks.{all_from}
use Rattle.exb_topology.proofs.port_sets.has_range.Given as goal

abbrev pub invariant-loop-number : goal.invariant-loop-number
invariant-loop-number l = all_from (port_in l.set) l.number (l.fn.last + 1 - l.number) ≡ all_from (port_in l.set) l.fn.first (l.fn.last + 1 - l.fn.first)
