use Rattle.exb_net_file.specs.NetFiles.{net_file_of}
use Rattle.exb_inputs.proofs.MemberFaults.{parsed_counts}
use Rattle.exb_inputs.proofs.net_inputs.read_net_file.Goals as goal

pub returns-clause-faults : goal.returns-clause-faults
returns-clause-faults g c = parsed_counts (net_file_of c.as_slice.result.now) c.parse.result _ _ c.in_ok-file.ensures.faults.once c.parse.ensures.refused
