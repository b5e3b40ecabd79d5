use Rattle.exb_trace_laws.proofs.TraceLaws.{begins_traced}
use Rattle.exb_trace_laws.proofs.laws.begins_traced.Goals as goal

pub returns : goal.returns
returns c = begins_traced
