use Rattle.exb_trace_spec.proofs.Rule3Times.{time_is_decided}
use Rattle.exb_trace_spec.proofs.checker_laws.time_is_decided.Goals as goal

pub returns : goal.returns
returns c = time_is_decided
