use Rattle.std.proofs.Common.{◌≡◌, ◌++◌}
use Rattle.exb_outbox.specs.PortMaps.{ports_in}
use Rattle.exb_outbox.specs.Logs.{row_outs}
use Rattle.exb_outbox.proofs.log.put_row.Given as goal

-- what was put so far, and then the ports that are left, are all
abbrev pub invariant-loop-port : goal.invariant-loop-port
invariant-loop-port l = l.outs.items ++ row_outs l.frame (ports_in l.rest) ≡ l.initial.outs.items ++ row_outs l.frame (ports_in l.fn.row)

abbrev pub decreases-loop-port : goal.decreases-loop-port
decreases-loop-port l = l.rest.ports
