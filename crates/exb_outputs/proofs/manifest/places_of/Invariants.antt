use Rattle.exb_outputs.proofs.PortPlaces.{ArePlacedBelow}
use Rattle.exb_outputs.proofs.manifest.places_of.Given as goal

abbrev pub invariant-ports : goal.invariant-ports
invariant-ports l = ArePlacedBelow l.tree l.number l.ports.items l.places.items
