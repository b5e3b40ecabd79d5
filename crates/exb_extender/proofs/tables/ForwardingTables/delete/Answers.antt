use Rattle.std.proofs.Common.{sym, ◌∙◌, refl}
use Rattle.exb_extender.proofs.TableLemmas.{delete_code_is, delete_refused, deleted_nothing, deleted}
use Rattle.exb_extender.proofs.tables.ForwardingTables.delete.Goals as goal

pub returns-then-not-is_port-clause-code : goal.returns-then-not-is_port-clause-code
returns-then-not-is_port-clause-code c = delete_code_is _ _ _ _ c.args.port 1 (rw (sym c.is_port.ensures.port ∙ c.if-not-is_port.true) refl)

pub returns-then-not-is_port-clause-tables : goal.returns-then-not-is_port-clause-tables
returns-then-not-is_port-clause-tables c = delete_refused _ _ _ _ c.args.port (sym c.is_port.ensures.port ∙ c.if-not-is_port.true)

pub returns-then-channel-ne0-clause-code : goal.returns-then-channel-ne0-clause-code
returns-then-channel-ne0-clause-code c = delete_code_is _ _ _ _ c.args.port 0 (rw (sym c.is_port.ensures.port ∙ c.if-not-is_port.false) refl)

pub returns-then-channel-ne0-clause-tables : goal.returns-then-channel-ne0-clause-tables
returns-then-channel-ne0-clause-tables c =
    deleted _ _ _ _ c.args.port _ _ c.args.self.now.kept (sym c.is_port.ensures.port ∙ c.if-not-is_port.false) refl c.if-channel-ne0.true c.take_out.ensures

pub returns-else-channel-ne0-clause-code : goal.returns-else-channel-ne0-clause-code
returns-else-channel-ne0-clause-code c = delete_code_is _ _ _ _ c.args.port 0 (rw (sym c.is_port.ensures.port ∙ c.if-not-is_port.false) refl)

pub returns-else-channel-ne0-clause-tables : goal.returns-else-channel-ne0-clause-tables
returns-else-channel-ne0-clause-tables c = deleted_nothing _ _ _ _ c.args.port (sym c.is_port.ensures.port ∙ c.if-not-is_port.false) c.if-channel-ne0.false
