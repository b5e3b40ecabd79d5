use Rattle.exb_inputs.proofs.ShelfEffects.{parsed_counts}
use Rattle.exb_inputs.proofs.topology.read_topology.Goals as goal

pub returns-clause-faults : goal.returns-clause-faults
returns-clause-faults g c = parsed_counts c.as_slice.result.now c.parse.result _ _ c.in_ok-file.ensures.faults.once c.parse.ensures.refused
