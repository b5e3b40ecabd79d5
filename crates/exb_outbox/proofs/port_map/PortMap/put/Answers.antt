use Rattle.std.proofs.Common.{[], ◌∷◌, ◌++◌, ap, sym, subst, ◌∙◌}
use Rattle.exb_csp.specs.AllTables.{port_of}
use Rattle.exb_outbox.specs.PortMaps.{Row, ports_in, HasNoneFrom}
use Rattle.exb_outbox.proofs.PortMapBits.{row_more}
use Rattle.exb_outbox.proofs.port_map.PortMap.put.Goals as goal

pub returns-clause-ports : goal.returns-clause-ports
returns-clause-ports c =
    let k = c.args.port in
    row_more (record { device = c.self.inside.device; ports = c.self.inside.ports }) k c.requires.some c.requires.low (subst (λ (r : Row). HasNoneFrom r k) (sym c.self.view_is) c.requires.end)
    ∙ ap (λ (r : Row). ports_in r ++ port_of r.device k ∷ []) c.self.view_is
