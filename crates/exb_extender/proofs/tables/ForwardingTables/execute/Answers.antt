use Rattle.exb_extender.specs.Tables.{tables_of}
use Rattle.exb_extender.proofs.TableLemmas.{responding}
use Rattle.exb_extender.proofs.tables.ForwardingTables.execute.Goals as goal

pub returns-clause-response : goal.returns-clause-response
returns-clause-response c = responding (tables_of c.args.self.now) c.args.request.now _ _ _ c.kind.ensures c.change-code.ensures.code c.answered_ports-ports.ensures
