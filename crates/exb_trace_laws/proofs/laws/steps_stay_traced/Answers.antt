use Rattle.exb_trace_laws.proofs.TraceLaws.{steps_stay_traced}
use Rattle.exb_trace_laws.proofs.laws.steps_stay_traced.Goals as goal

pub returns : goal.returns
returns c = steps_stay_traced c.sends_are_words.ensures c.at_most_two.ensures c.ready_midway.ensures c.held_are_numbers.ensures
