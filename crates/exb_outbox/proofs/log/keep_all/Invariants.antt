use Rattle.std.proofs.Common.{length}
use Rattle.exb_outbox.proofs.log.keep_all.Given as goal

-- those that are left
abbrev pub decreases-loop-frame : goal.decreases-loop-frame
decreases-loop-frame l = length l.left
