use Rattle.exb_trace_spec.proofs.Rule5Checker.{rule_5_is_decided}
use Rattle.exb_trace_spec.proofs.checker_laws.rule_5_is_decided.Goals as goal

pub returns : goal.returns
returns c = rule_5_is_decided
