-- The tables that an extender keeps.
use Rattle.exb_csp.specs.Execution.{ExtenderTables}
use Rattle.exb_extender.specs.declared.tables.ForwardingTables.{ForwardingTables}
use Rattle.exb_extender.specs.TableRows.{tables_in}

abbrev pub tables_of : ForwardingTables → ExtenderTables
tables_of t = tables_in t.count t.own t.cascade t.rows
