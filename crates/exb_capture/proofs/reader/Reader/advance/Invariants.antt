use Rattle.std.proofs.Common.{◌≡◌, ◌+◌, ◌-◌, length}
use Rattle.exb_capture.specs.Blocks.{most_held}
use Rattle.exb_capture.specs.ReaderMachine.{asked}
use Rattle.exb_capture.proofs.reader.Reader.advance.Given as goal

abbrev pub invariant-turns : goal.invariant-turns
invariant-turns g l = asked most_held g.F.Format.stands l.ended l.self ≡ asked most_held g.F.Format.stands l.ended l.fn.self

abbrev pub decreases-turns : goal.decreases-turns
decreases-turns g l = (length l.self.held + 1) - l.self.owing
