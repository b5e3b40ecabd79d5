use Rattle.std.proofs.Common.{◌≡◌, ◌≤◌, ◌++◌, ◌∷◌, [], drop, length, flat_map}
use Rattle.exb_model.specs.Texts.{line_of}
use Rattle.exb_journal.proofs.frame_lines.quick_lines.Given as goal

abbrev pub invariant-lines : goal.invariant-lines
invariant-lines l =
    record {
      within : l.start ≤ 128;
      left : l.left ≤ length l.events;
      written : drop l.start l.room ≡ flat_map (λ e. line_of e ++ 10 ∷ []) (drop l.left l.events);
    }

abbrev pub decreases-lines : goal.decreases-lines
decreases-lines l = l.left
