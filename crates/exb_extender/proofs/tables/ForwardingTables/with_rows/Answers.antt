use Rattle.exb_extender.proofs.TableLemmas.{kept_on, tables_on}
use Rattle.exb_extender.proofs.tables.ForwardingTables.with_rows.Goals as goal

pub invariant_of-result : goal.invariant_of-result
invariant_of-result c = record { kept = kept_on c.args.ports c.requires.count.0 c.requires.count.1 }

pub returns : goal.returns
returns c = tables_on c.args.ports c.args.rows c.requires.rows
