use Rattle.exb_extender.proofs.TableLemmas.{port_bit}
use Rattle.exb_extender.proofs.tables.has_port.Goals as goal

pub returns : goal.returns
returns c = port_bit c.args.mask c.args.port c.requires.0 c.requires.1
