use Rattle.std.proofs.Common.{◌≡◌, ℕ, ◌<◌, true, length}
use Rattle.std.specs.Prelude.{slice_index}
use Rattle.exb_model.specs.Tree.{is_external}
use Rattle.exb_audit.specs.Frames.{frames_by}
use Rattle.exb_audit.proofs.rule4_captures.are_whole.Given as goal

abbrev pub invariant-loop-number : goal.invariant-loop-number
invariant-loop-number l = (p : ℕ) → p < l.number → is_external l.tree p ≡ true → slice_index l.counts p ≡ length (frames_by l.all p)
