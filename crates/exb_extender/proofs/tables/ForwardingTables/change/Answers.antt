use Rattle.std.proofs.Common.{◌∙◌}
use Rattle.exb_extender.specs.Tables.{tables_of}
use Rattle.exb_extender.proofs.TableLemmas.{open_code, open_same, register_code, register_executed, unregister_code, unregister_executed}
use Rattle.exb_extender.proofs.tables.ForwardingTables.change.Goals as goal

pub returns-in-Open-clause-code : goal.returns-in-Open-clause-code
returns-in-Open-clause-code c = rw c.in-Open.is (open_code (tables_of c.args.self.now))

pub returns-in-Open-clause-tables : goal.returns-in-Open-clause-tables
returns-in-Open-clause-tables c = rw c.in-Open.is (open_same (tables_of c.args.self.now))

pub returns-in-Register-clause-code : goal.returns-in-Register-clause-code
returns-in-Register-clause-code c = rw c.in-Register.is (c.register_many.ensures.code ∙ register_code (tables_of c.args.self.now) c.in-Register.ecid c.in-Register.mask)

pub returns-in-Register-clause-tables : goal.returns-in-Register-clause-tables
returns-in-Register-clause-tables c = rw c.in-Register.is (c.register_many.ensures.tables ∙ register_executed (tables_of c.args.self.now) c.in-Register.ecid c.in-Register.mask)

pub returns-in-Unregister-clause-code : goal.returns-in-Unregister-clause-code
returns-in-Unregister-clause-code c = rw c.in-Unregister.is (c.unregister_many.ensures.code ∙ unregister_code (tables_of c.args.self.now) c.in-Unregister.ecid)

pub returns-in-Unregister-clause-tables : goal.returns-in-Unregister-clause-tables
returns-in-Unregister-clause-tables c = rw c.in-Unregister.is (c.unregister_many.ensures.tables ∙ unregister_executed (tables_of c.args.self.now) c.in-Unregister.ecid)
