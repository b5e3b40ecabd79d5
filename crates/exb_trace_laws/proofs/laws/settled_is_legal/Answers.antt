use Rattle.exb_trace_laws.proofs.TraceLaws.{settled_is_legal}
use Rattle.exb_trace_laws.proofs.laws.settled_is_legal.Goals as goal

pub returns : goal.returns
returns c = settled_is_legal
