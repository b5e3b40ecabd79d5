use Rattle.std.proofs.Common.{◌≡◌, drop}
use Rattle.std.specs.List.{list_any}
use Rattle.std.specs.Str.{bytes_eq}
use Rattle.exb_net_file.proofs.net_file.is_named.Given as goal

abbrev pub invariant-loop-bridge : goal.invariant-loop-bridge
invariant-loop-bridge l = list_any (λ c. bytes_eq c.name l.name) (drop l.bridge-index l.before) ≡ list_any (λ c. bytes_eq c.name l.name) l.before
