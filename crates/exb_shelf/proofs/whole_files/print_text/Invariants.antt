use Rattle.std.proofs.Common.{◌≡◌, ◌≤◌, ◌-◌, ◌++◌, length, take}
use Rattle.exb_shelf.proofs.whole_files.print_text.Given as goal

abbrev pub invariant-loop-at : goal.invariant-loop-at
invariant-loop-at g l =
    let O = g.O.Sink in
    record {
      place : l.at ≤ length l.text;
      text : O.tells → O.text l.out ≡ O.text l.fn.out ++ take l.at l.text;
      counted : O.faults l.out ≡ O.faults l.fn.out;
      faults : O.faults l.fn.out ≤ O.faults l.out;
    }

abbrev pub decreases-loop-at : goal.decreases-loop-at
decreases-loop-at g l = length l.text - l.at
