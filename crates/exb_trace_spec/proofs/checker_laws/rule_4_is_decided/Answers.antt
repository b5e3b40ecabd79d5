use Rattle.exb_trace_spec.proofs.Rule1And4Checker.{rule_4_is_decided}
use Rattle.exb_trace_spec.proofs.checker_laws.rule_4_is_decided.Goals as goal

pub returns : goal.returns
returns c = rule_4_is_decided
