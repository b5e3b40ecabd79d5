use Rattle.std.proofs.Common.{sym, ap, ◌∙◌, arith}
use Rattle.exb_csp.specs.Execution.{in_mask, some_port}
use Rattle.exb_csp.proofs.ExecutionLaws.{some_bit}
use Rattle.exb_extender.proofs.tables.is_member.Goals as goal

pub returns : goal.returns
returns c = sym (some_bit c.row.result (omega (arith, c.row.type_inv))) ∙ ap (λ w. some_port (in_mask w)) c.row.ensures
