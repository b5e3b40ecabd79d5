use Rattle.exb_extender.proofs.TableLemmas.{row_added}
use Rattle.exb_extender.proofs.tables.add_row.Goals as goal

pub returns : goal.returns
returns c = row_added c.args.rows.now c.put.new.self c.args.row.ecid c.args.row.mask c.row.result c.row.ensures c.put.ensures.rows
