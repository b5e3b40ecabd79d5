use Rattle.std.proofs.Common.{◌≡◌, ◌+◌, drop}
use Rattle.exb_cli.specs.Kinds.{place_among}
use Rattle.exb_cli.proofs.output_kinds.place_among.Given as goal

abbrev pub invariant-looking : goal.invariant-looking
invariant-looking l = (l.at ≡ l.kind-index) × (place_among l.number l.kinds ≡ l.at + place_among l.number (drop l.kind-index l.kinds))
