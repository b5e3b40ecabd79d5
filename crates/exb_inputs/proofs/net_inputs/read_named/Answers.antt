use Rattle.std.proofs.Common.{Err, Ok}
use Rattle.std.proofs.lemmas.Result.{err_from_is_err_and}
use Rattle.exb_inputs.proofs.OpenedNetFiles.{topologies_and, topologies_but}
use Rattle.exb_inputs.proofs.NetReadingSteps.{are_read, members_err, wires_err}
use Rattle.exb_inputs.proofs.net_inputs.read_named.Goals as goal

pub returns-in_err-members-clause-refused : goal.returns-in_err-members-clause-refused
returns-in_err-members-clause-refused g c t name says =
    let S = g.S.Shelf in
    let made = err_from_is_err_and c.from_residual.result c.from_residual.ensures.1 in
    let stops = c.in_err-members.ensures.refused t in
    rw (made.1, made.2) (members_err name (S.file c.args.shelf.now) c.args.net.now says c.in_err-members.field-0.0 (rw c.as_slice-bridges.ensures at stops))

pub returns-in_err-members-clause-opened : goal.returns-in_err-members-clause-opened
returns-in_err-members-clause-opened g c =
    let S = g.S.Shelf in
    let made = err_from_is_err_and c.from_residual.result c.from_residual.ensures.1 in
    let x = c.in_err-members.field-0.0 in
    rw (made.1, made.2)
    (topologies_but S.tells c.args.net.now.bridges (S.file c.args.shelf.now) (S.ids c.args.shelf.now) (S.ids c.read_members.new.shelf) (Err x) x (rw c.as_slice-bridges.ensures at c.in_err-members.ensures.opened))

pub returns-in-Ok-clause-read : goal.returns-in-Ok-clause-read
returns-in-Ok-clause-read g c t name says =
    let held = c.in_ok-members.ensures.read t in
    record {
      net = c.args.net.now;
      says = says;
      members = rw c.as_slice-bridges.ensures at held;
      wired = rw (c.as_slice-joined.ensures, c.as_slice-written.ensures) at c.in-Ok.ensures.wired;
    }

pub returns-in-Ok-clause-sound : goal.returns-in-Ok-clause-sound
returns-in-Ok-clause-sound g c =
    are_read c.args.net.now c.in_ok-members.members c.in-Ok.wires c.requires.sound (rw c.as_slice-bridges.ensures at c.in_ok-members.ensures.names) c.in_ok-members.ensures.valid c.in_ok-members.ensures.sound
    (rw (c.as_slice-joined.ensures, c.as_slice-written.ensures) at c.in-Ok.ensures.wired) (rw c.as_slice-joined.ensures at c.in-Ok.ensures.nets)

pub returns-in-Ok-clause-opened : goal.returns-in-Ok-clause-opened
returns-in-Ok-clause-opened g c =
    let S = g.S.Shelf in
    topologies_and S.tells c.args.net.now.bridges (S.file c.args.shelf.now) (S.ids c.args.shelf.now) (S.ids c.read_members.new.shelf) c.in_ok-members.members _ (rw c.as_slice-bridges.ensures at c.in_ok-members.ensures.opened)

pub returns-in-Err-clause-refused : goal.returns-in-Err-clause-refused
returns-in-Err-clause-refused g c t name says =
    let S = g.S.Shelf in
    let held = c.in_ok-members.ensures.read t in
    wires_err name (S.file c.args.shelf.now) c.args.net.now says c.in_ok-members.members c.in-Err.fault (rw c.as_slice-bridges.ensures at held) (rw (c.as_slice-joined.ensures, c.as_slice-written.ensures) at c.in-Err.ensures.refused)

pub returns-in-Err-clause-opened : goal.returns-in-Err-clause-opened
returns-in-Err-clause-opened g c =
    let S = g.S.Shelf in
    topologies_but S.tells c.args.net.now.bridges (S.file c.args.shelf.now) (S.ids c.args.shelf.now) (S.ids c.read_members.new.shelf) (Ok c.in_ok-members.members) c.in-Err.fault (rw c.as_slice-bridges.ensures at c.in_ok-members.ensures.opened)
