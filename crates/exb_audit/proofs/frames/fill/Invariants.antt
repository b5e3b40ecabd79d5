use Rattle.std.proofs.Common.{take}
use Rattle.exb_audit.specs.Frames.{IsTable}
use Rattle.exb_audit.proofs.frames.fill.Given as goal

abbrev pub invariant-loop-i : goal.invariant-loop-i
invariant-loop-i l = IsTable (take l.i l.all) l.table
