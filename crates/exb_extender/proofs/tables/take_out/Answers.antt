use Rattle.exb_extender.proofs.TableLemmas.{pair_taken}
use Rattle.exb_extender.proofs.tables.take_out.Goals as goal

pub returns : goal.returns
returns c = pair_taken c.args.rows.now c.put.new.self c.args.ecid c.args.port c.row.result c.requires.port.0 c.requires.port.1 c.row.ensures c.put.ensures.rows
