use Rattle.std.proofs.Common.{◌≡◌, drop}
use Rattle.std.specs.List.{list_any}
use Rattle.std.specs.Str.{bytes_eq}
use Rattle.exb_topology.proofs.checks.is_end.Given as goal

abbrev pub invariant-loop-other : goal.invariant-loop-other
invariant-loop-other l = list_any (λ o. bytes_eq l.end o) (drop l.other-index l.ends) ≡ list_any (λ o. bytes_eq l.end o) l.ends
