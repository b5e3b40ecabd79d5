use Rattle.exb_inputs.proofs.MemberFaults.{cause_of_member, counts_so, refused_so}
use Rattle.exb_inputs.proofs.net_inputs.read_member.Goals as goal

pub returns-in-Err-clause-refused : goal.returns-in-Err-clause-refused
returns-in-Err-clause-refused g c t =
    let stops = c.in-Err.ensures.refused t in
    refused_so (g.S.Shelf.file c.args.shelf.now) c.args.bridge.now c.in-Err.fault c.of_member.result (rw c.as_str.ensures at stops) (rw c.as_str-name.ensures at c.of_member.ensures.is)

pub returns-in-Err-clause-causes : goal.returns-in-Err-clause-causes
returns-in-Err-clause-causes g c = cause_of_member c.args.bridge.now.name c.in-Err.fault c.of_member.result c.in-Err.ensures.causes (rw c.as_str-name.ensures at c.of_member.ensures.is)

pub returns-in-Err-clause-faults : goal.returns-in-Err-clause-faults
returns-in-Err-clause-faults g c = counts_so c.in-Err.fault c.of_member.result _ _ c.of_member.ensures.counts c.in-Err.ensures.faults
