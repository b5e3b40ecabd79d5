use Rattle.std.proofs.Common.{take}
use Rattle.exb_csp.specs.PortMasks.{ClearsRows}
use Rattle.exb_extender.proofs.tables.clear_rows.Given as goal

abbrev pub invariant-ecids : goal.invariant-ecids
invariant-ecids l = ClearsRows l.initial.rows l.rows (take l.ecid-index l.ecids)
