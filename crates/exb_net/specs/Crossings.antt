-- Frames between bridges, as the code has them.
use Rattle.std.specs.Prelude.{List, map}
use Rattle.exb_net_spec.specs.NetHistory.{Crossing}
use Rattle.exb_net.specs.declared.crossing.Crossing.{Crossing as Queued}

abbrev pub crossing_of : Queued → Crossing
crossing_of x = record { bridge = x.to.bridge; port = x.to.port; moment = x.moment; bytes = x.bytes }

abbrev pub all_crossing : List Queued → List Crossing
all_crossing xs = map crossing_of xs
