use Rattle.std.proofs.Common.{◌≡◌, drop}
use Rattle.exb_audit.specs.Rule5Relays.{each_is_right}
use Rattle.exb_audit.specs.Frames.{frames_by}
use Rattle.exb_audit.specs.LineWords.{AreFew}
use Rattle.exb_audit.proofs.rule5_relays.are_steps.Given as goal

abbrev pub invariant-loop-i : goal.invariant-loop-i
invariant-loop-i l = AreFew (frames_by l.captures.all.now) → each_is_right l.tree (frames_by l.captures.all.now) (drop l.i l.trace) ≡ each_is_right l.tree (frames_by l.captures.all.now) l.trace
