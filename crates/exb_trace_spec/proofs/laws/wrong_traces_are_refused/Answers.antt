use Rattle.exb_trace_spec.proofs.WrongTraces.{refuses_wrong}
use Rattle.exb_trace_spec.proofs.laws.wrong_traces_are_refused.Goals as goal

pub returns : goal.returns
returns c = refuses_wrong
