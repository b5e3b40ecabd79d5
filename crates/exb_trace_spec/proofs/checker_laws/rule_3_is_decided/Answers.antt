use Rattle.exb_trace_spec.proofs.Rule3Checker.{rule_3_is_decided}
use Rattle.exb_trace_spec.proofs.checker_laws.rule_3_is_decided.Goals as goal

pub returns : goal.returns
returns c = rule_3_is_decided
