use Rattle.std.proofs.Common.{◌≡◌, ℕ}
use Rattle.exb_model.specs.Ports.{port_in}
use Rattle.exb_model.proofs.Validity.{hung_below}
use Rattle.exb_model.proofs.layout.Layout.cascades.Given as goal

abbrev pub invariant-loop-number : goal.invariant-loop-number
invariant-loop-number l = (q : ℕ) → port_in l.cascades q ≡ hung_below l.self l.number q
