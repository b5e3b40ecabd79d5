use Rattle.std.proofs.Common.{subst}
use Rattle.std.proofs.lemmas.Bool.{eqb-true}
use Rattle.exb_outbox.specs.PortMaps.{Row, HasNoneFrom}
use Rattle.exb_outbox.proofs.PortMapBits.{ends_there}
use Rattle.exb_outbox.proofs.port_map.PortMap.ends_before.Goals as goal

pub returns : goal.returns
returns c e =
    subst (λ (r : Row). HasNoneFrom r c.args.port) c.self.view_is
    (ends_there (record { device = c.self.inside.device; ports = c.self.inside.ports }) c.args.port c.requires.some (eqb-true _ 0 e))
