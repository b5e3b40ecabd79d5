use Rattle.std.proofs.Common.{take}
use Rattle.exb_csp.specs.PortMasks.{AddsRows}
use Rattle.exb_extender.proofs.tables.add_rows.Given as goal

abbrev pub invariant-added : goal.invariant-added
invariant-added l = AddsRows l.initial.rows l.rows (take l.row-index l.added)
