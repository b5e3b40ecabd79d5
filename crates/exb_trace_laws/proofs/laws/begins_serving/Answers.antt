use Rattle.exb_trace_laws.proofs.RunTraces.{begins_serving}
use Rattle.exb_trace_laws.proofs.laws.begins_serving.Goals as goal

pub returns : goal.returns
returns c = begins_serving
