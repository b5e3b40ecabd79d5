use Rattle.exb_topology.proofs.Soundness.{sound_result}
use Rattle.exb_topology.proofs.topology.read.Goals as goal

pub returns-clause-sound : goal.returns-clause-sound
returns-clause-sound c = sound_result c.args.file.now c.in_ok-tables.tables c.resolved.result c.in_ok-tables.ensures.exact c.resolved.ensures.exact
