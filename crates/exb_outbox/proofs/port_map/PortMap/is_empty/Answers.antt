use Rattle.std.proofs.Common.{◌^◌, ◌<◌, rules, ap, sym, subst, ◌∙◌}
use Rattle.std.proofs.lemmas.Bool.{eq-eqb, eqb-true, false≢true}
use Rattle.exb_outbox.specs.PortMaps.{Row, ports_in, HasSome}
use Rattle.exb_outbox.proofs.PortMapBits.{row_empty, row_some}
use Rattle.exb_outbox.proofs.port_map.PortMap.is_empty.Goals as goal

pub returns-clause-empty : goal.returns-clause-empty
returns-clause-empty c e =
    ap ports_in (sym c.self.view_is) ∙ row_empty (record { device = c.self.inside.device; ports = c.self.inside.ports }) (eqb-true _ 0 e)

pub returns-clause-some : goal.returns-clause-some
returns-clause-some c e =
    let fits : c.self.inside.ports < 2 ^ 64 = search rules in
    subst (λ (r : Row). HasSome (ports_in r)) c.self.view_is (row_some c.self.inside.device c.self.inside.ports (λ z. false≢true (sym e ∙ eq-eqb _ 0 z)) fits)
