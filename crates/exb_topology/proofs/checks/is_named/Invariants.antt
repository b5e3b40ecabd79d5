use Rattle.std.proofs.Common.{◌≡◌, ◌==◌, drop}
use Rattle.std.specs.List.{list_any}
use Rattle.exb_topology.proofs.checks.is_named.Given as goal

abbrev pub invariant-loop-table : goal.invariant-loop-table
invariant-loop-table l = list_any (λ q. q.name == l.name) (drop l.table-index l.before) ≡ list_any (λ q. q.name == l.name) l.before
