use Rattle.std.proofs.Common.{◌∙◌}
use Rattle.exb_capture.specs.ReaderAnswers.{seen}
use Rattle.exb_capture.specs.Blocks.{most_held}
use Rattle.exb_capture.proofs.PieceLaws.{asked_goes, asked_answers, turn_less}
use Rattle.exb_capture.proofs.ReaderLemmas.{answer_is, left_is}
use Rattle.exb_capture.proofs.reader.Reader.advance.Goals as goal

pub returns-in-Some-clause-answer : goal.returns-in-Some-clause-answer
returns-in-Some-clause-answer g c =
    answer_is _ _ (asked_answers most_held g.F.Format.stands c.is_a_format.ensures c.args.ended c.turns.self c.turn.new.self (seen c.in-Some.answer c.turn.new.self.held) c.in-Some.ensures.value ∙ c.turns.invariant)

pub returns-in-Some-clause-left : goal.returns-in-Some-clause-left
returns-in-Some-clause-left g c =
    left_is _ _ (asked_answers most_held g.F.Format.stands c.is_a_format.ensures c.args.ended c.turns.self c.turn.new.self (seen c.in-Some.answer c.turn.new.self.held) c.in-Some.ensures.value ∙ c.turns.invariant)

pub turns-smaller : goal.turns-smaller
turns-smaller g c = turn_less most_held g.F.Format.stands c.is_a_format.ensures c.args.ended c.turns.self c.turn.new.self c.in_default.ensures.value

pub turns-preserved : goal.turns-preserved
turns-preserved g c = asked_goes most_held g.F.Format.stands c.is_a_format.ensures c.args.ended c.turns.self c.turn.new.self c.in_default.ensures.value ∙ c.turns.invariant
