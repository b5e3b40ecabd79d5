use Rattle.std.proofs.Common.{◌∙◌, ap, arith}
use Rattle.exb_csp.specs.Execution.{answered_ports}
use Rattle.exb_wire_tests.proofs.PlainLemmas.{written_back, lists_executed, lists_responding}
use Rattle.exb_wire_tests.proofs.plain_tables.PlainTables.execute.Goals as goal

pub returns-clause-tables : goal.returns-clause-tables
returns-clause-tables c =
    lists_executed c.args.self.now c.args.request.now
    c.as_mut_slice-own.result.now c.as_mut_slice-cascade.result.now c.as_mut_slice-words.result.now
    c.change-code.new.own c.change-code.new.cascade c.change-code.new.words _ _ _
    (cc)
    (written_back _ _ _ (omega (arith, c.change-code.auto.own, c.as_mut_slice-own.ensures.len)))
    (written_back _ _ _ (omega (arith, c.change-code.auto.cascade, c.as_mut_slice-cascade.ensures.len)))
    (written_back _ _ _ (omega (arith, c.change-code.auto.words, c.as_mut_slice-words.ensures.len)))
    c.change-code.ensures.tables

pub returns-clause-response : goal.returns-clause-response
returns-clause-response c =
    lists_responding c.args.self.now c.args.request.now
    c.as_mut_slice-own.result.now c.as_mut_slice-cascade.result.now c.as_mut_slice-words.result.now
    c.kind.result c.change-code.result c.answered_ports-ports.result (cc)
    c.kind.ensures c.change-code.ensures.coded
    (c.answered_ports-ports.ensures ∙ ap (λ n. answered_ports n c.args.request.now) (omega (arith, c.len.ensures, c.as_mut_slice-own.ensures.len)))
