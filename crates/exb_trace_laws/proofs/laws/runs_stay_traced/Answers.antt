use Rattle.exb_trace_laws.proofs.RunTraces.{runs_stay_traced}
use Rattle.exb_trace_laws.proofs.laws.runs_stay_traced.Goals as goal

pub returns : goal.returns
returns c = runs_stay_traced c.begins_traced.ensures c.steps_stay_traced.ensures c.settled_is_legal.ensures c.begins_sound.ensures c.runs_stay_sound.ensures c.steps_stay_serving.ensures
