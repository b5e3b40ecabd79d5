use Rattle.exb_trace_spec.proofs.AllRules.{all_are_judged}
use Rattle.exb_trace_spec.proofs.checker_laws.all_are_judged.Goals as goal

pub returns : goal.returns
returns c = all_are_judged
