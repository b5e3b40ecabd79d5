use Rattle.std.proofs.Common.{sym, ◌∙◌}
use Rattle.exb_csp.proofs.ExecutionLoops.{all_rows_small}
use Rattle.exb_extender.specs.Tables.{tables_of}
use Rattle.exb_extender.proofs.TableLemmas.{rows_code_is, registered, register_refused}
use Rattle.exb_extender.proofs.tables.ForwardingTables.register_many.Goals as goal

pub add_rows-requires : goal.add_rows-requires
add_rows-requires c = all_rows_small (tables_of c.args.self.now) c.args.rows.now (sym c.rows_code-code.ensures ∙ c.if-code-eq0.true)

pub returns-then-code-eq0-clause-code : goal.returns-then-code-eq0-clause-code
returns-then-code-eq0-clause-code c = rows_code_is _ _ _ _ c.args.rows.now _ c.rows_code-code.ensures

pub returns-then-code-eq0-clause-tables : goal.returns-then-code-eq0-clause-tables
returns-then-code-eq0-clause-tables c = registered _ _ _ _ c.args.rows.now _ (sym c.rows_code-code.ensures ∙ c.if-code-eq0.true) c.add_rows.ensures

pub returns-else-code-eq0-clause-code : goal.returns-else-code-eq0-clause-code
returns-else-code-eq0-clause-code c = rows_code_is _ _ _ _ c.args.rows.now _ c.rows_code-code.ensures

pub returns-else-code-eq0-clause-tables : goal.returns-else-code-eq0-clause-tables
returns-else-code-eq0-clause-tables c = register_refused _ _ _ _ c.args.rows.now (λ z. c.if-code-eq0.false (c.rows_code-code.ensures ∙ z))
