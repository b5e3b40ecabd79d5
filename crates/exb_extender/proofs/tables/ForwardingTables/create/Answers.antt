use Rattle.std.proofs.Common.{sym, ◌∙◌}
use Rattle.exb_extender.proofs.TableLemmas.{create_code_is, create_refused, created}
use Rattle.exb_extender.proofs.tables.ForwardingTables.create.Goals as goal

pub returns-then-code-eq0-clause-code : goal.returns-then-code-eq0-clause-code
returns-then-code-eq0-clause-code c = create_code_is _ _ _ _ c.args.port c.args.cascade c.args.channel _ c.create_code-code.ensures

pub returns-then-code-eq0-clause-tables : goal.returns-then-code-eq0-clause-tables
returns-then-code-eq0-clause-tables c =
    created _ _ _ _ c.args.port c.args.cascade c.args.channel _ c.args.self.now.kept (sym c.create_code-code.ensures ∙ c.if-code-eq0.true) c.add_row.ensures

pub returns-else-code-eq0-clause-code : goal.returns-else-code-eq0-clause-code
returns-else-code-eq0-clause-code c = create_code_is _ _ _ _ c.args.port c.args.cascade c.args.channel _ c.create_code-code.ensures

pub returns-else-code-eq0-clause-tables : goal.returns-else-code-eq0-clause-tables
returns-else-code-eq0-clause-tables c = create_refused _ _ _ _ c.args.port c.args.cascade c.args.channel _ c.create_code-code.ensures c.if-code-eq0.false
