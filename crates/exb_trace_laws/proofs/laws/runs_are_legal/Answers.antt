use Rattle.exb_trace_laws.proofs.RunTraces.{runs_are_legal}
use Rattle.exb_trace_laws.proofs.laws.runs_are_legal.Goals as goal

pub returns : goal.returns
returns c = runs_are_legal c.begins_traced.ensures c.steps_stay_traced.ensures c.settled_is_legal.ensures c.begins_sound.ensures c.runs_stay_sound.ensures c.steps_stay_serving.ensures
