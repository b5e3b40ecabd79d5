use Rattle.exb_inputs.proofs.MemberFaults.{cause_of_capture, counts_so, faulty_so}
use Rattle.exb_inputs.proofs.MemberCaptures.{ends_within}
use Rattle.exb_inputs.proofs.member_captures.check_member.Goals as goal

pub returns-in-Err-clause-flaw : goal.returns-in-Err-clause-flaw
returns-in-Err-clause-flaw g c t =
    let stops = c.in-Err.ensures.flaw t in
    faulty_so (g.S.Shelf.file c.args.shelf.now) c.args.member.now c.in-Err.fault c.of_member.result (rw c.as_slice.ensures at stops) (rw c.as_str.ensures at c.of_member.ensures.is)

pub returns-in-Err-clause-causes : goal.returns-in-Err-clause-causes
returns-in-Err-clause-causes g c = cause_of_capture c.args.member.now.name c.in-Err.fault c.of_member.result c.in-Err.ensures.causes (rw c.as_str.ensures at c.of_member.ensures.is)

pub returns-in-Err-clause-ends : goal.returns-in-Err-clause-ends
returns-in-Err-clause-ends g c =
    let S = g.S.Shelf in
    ends_within S.tells c.args.member.now (S.file c.args.shelf.now) (S.ids c.args.shelf.now) (S.ids c.check_captures.new.shelf) c.in-Err.fault c.of_member.result c.in-Err.ensures.causes (rw c.as_str.ensures at c.of_member.ensures.is)
    (rw c.as_slice.ensures at c.in-Err.ensures.ends)

pub returns-in-Err-clause-faults : goal.returns-in-Err-clause-faults
returns-in-Err-clause-faults g c = counts_so c.in-Err.fault c.of_member.result _ _ c.of_member.ensures.counts c.in-Err.ensures.faults
