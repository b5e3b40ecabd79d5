use Rattle.std.proofs.Common.{◌≡◌, drop}
use Rattle.exb_inputs.specs.Inputs.{name_of}
use Rattle.exb_inputs.proofs.captures.name_of.Given as goal

abbrev pub invariant-looking : goal.invariant-looking
invariant-looking l = name_of l.names l.port ≡ name_of (drop l.named-index l.names) l.port
