use Rattle.std.proofs.Common.{take}
use Rattle.std.specs.Prelude.{All}
use Rattle.exb_audit.specs.Frames.{IsFramed}
use Rattle.exb_audit.proofs.judgement.are_frames.Given as goal

abbrev pub invariant-loop-one : goal.invariant-loop-one
invariant-loop-one l = All IsFramed (take l.one-index l.all)
