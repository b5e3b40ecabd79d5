use Rattle.std.proofs.Common.{sym}
use Rattle.exb_numbers.proofs.GroupPlaces.{told_ports}
use Rattle.exb_numbers.proofs.groups.has_ports.Goals as goal

pub returns : goal.returns
returns c = sym (told_ports c.args.set.now c.empty.result c.is_same.result c.empty.ensures c.is_same.ensures)
