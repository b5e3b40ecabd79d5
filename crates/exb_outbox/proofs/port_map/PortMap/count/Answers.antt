use Rattle.std.proofs.Common.{◌^◌, ◌<◌, length, rules, ap, ◌∙◌}
use Rattle.exb_outbox.specs.PortMaps.{Row, ports_in}
use Rattle.exb_outbox.proofs.PortMapBits.{row_count, row_few}
use Rattle.exb_outbox.proofs.port_map.PortMap.count.Goals as goal

pub returns-clause-ports : goal.returns-clause-ports
returns-clause-ports c =
    let fits : c.self.inside.ports < 2 ^ 64 = search rules in
    row_count (record { device = c.self.inside.device; ports = c.self.inside.ports }) fits ∙ ap (λ (r : Row). length (ports_in r)) c.self.view_is

pub returns-clause-few : goal.returns-clause-few
returns-clause-few c =
    let fits : c.self.inside.ports < 2 ^ 64 = search rules in
    row_few (record { device = c.self.inside.device; ports = c.self.inside.ports }) fits
