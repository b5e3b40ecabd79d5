use Rattle.std.proofs.Common.{refl}
use Rattle.exb_outbox.proofs.PortMapBits.{row_empty}
use Rattle.exb_outbox.proofs.port_map.PortMap.none.Goals as goal

pub returns-clause-ports : goal.returns-clause-ports
returns-clause-ports c = row_empty (record { device = c.args.device; ports = 0 }) refl
