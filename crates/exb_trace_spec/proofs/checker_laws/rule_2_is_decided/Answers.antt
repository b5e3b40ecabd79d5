use Rattle.exb_trace_spec.proofs.Rule2Checker.{rule_2_is_decided}
use Rattle.exb_trace_spec.proofs.checker_laws.rule_2_is_decided.Goals as goal

pub returns : goal.returns
returns c = rule_2_is_decided
