use Rattle.std.proofs.Common.{◌∙◌, inl, inr, subst}
use Rattle.std.proofs.lemmas.Result.{err_from_is_err_and}
use Rattle.exb_shelf.specs.Files.{Files}
use Rattle.exb_inputs.proofs.Outcomes.{files_same}
use Rattle.exb_inputs.specs.NetContents.{HoldsMember}
use Rattle.exb_inputs.specs.NetRefusals.{IsOwnRefusal}
use Rattle.exb_inputs.proofs.MemberLoops.{reads_more}
use Rattle.exb_inputs.proofs.OpenedNetFiles.{first_refused, topologies_end, topologies_stop}
use Rattle.exb_inputs.proofs.net_inputs.read_members.Goals as goal

pub returns-in_err-member-clause-refused : goal.returns-in_err-member-clause-refused
returns-in_err-member-clause-refused g c t =
    let S = g.S.Shelf in
    let inv = c.reading.invariant in
    let bs = c.args.bridges.now in
    let i = c.reading.bridge-index in
    let b = c.bridge-item.result in
    let f = S.file c.args.shelf.now in
    let x = c.in_err-member.field-0.0 in
    let made = err_from_is_err_and c.from_residual.result c.from_residual.ensures.1 in
    rw (made.1, made.2) (elim (c.in_err-member.ensures.refused t) [
      | inl own ↦ inl (first_refused bs i b c.reading-test.true c.bridge-item.is f c.reading.members x (inv.read t) (subst (λ (file : Files). IsOwnRefusal file b x) (files_same f (S.file c.reading.shelf) inv.files) own))
      | inr failed ↦ inr failed
    ])

pub returns-in_err-member-clause-opened : goal.returns-in_err-member-clause-opened
returns-in_err-member-clause-opened g c =
    let S = g.S.Shelf in
    let inv = c.reading.invariant in
    let made = err_from_is_err_and c.from_residual.result c.from_residual.ensures.1 in
    rw (made.1, made.2)
    (topologies_stop c.args.bridges.now c.reading.bridge-index c.bridge-item.result c.reading-test.true c.bridge-item.is S.tells (S.file c.args.shelf.now) c.reading.members c.in_err-member.field-0.0 (S.ids c.args.shelf.now)
    (S.ids c.reading.shelf) (S.ids c.read_member.new.shelf) inv.read inv.opened c.in_err-member.ensures.opened)

pub returns-in_err-push-clause-opened : goal.returns-in_err-push-clause-opened
returns-in_err-push-clause-opened g c =
    let S = g.S.Shelf in
    let inv = c.reading.invariant in
    let made = err_from_is_err_and c.from_residual-in_err-push.result c.from_residual-in_err-push.ensures.1 in
    rw (made.1)
    (topologies_stop c.args.bridges.now c.reading.bridge-index c.bridge-item.result c.reading-test.true c.bridge-item.is S.tells (S.file c.args.shelf.now) c.reading.members made.0 (S.ids c.args.shelf.now) (S.ids c.reading.shelf)
    (S.ids c.read_member.new.shelf) inv.read inv.opened c.in_ok-member.ensures.opened)

pub reading-preserved : goal.reading-preserved
reading-preserved g c =
    let S = g.S.Shelf in
    let inv = c.reading.invariant in
    let f = S.file c.args.shelf.now in
    let b = c.bridge-item.result in
    let m = c.in_ok-member.member in
    let one = c.in_ok-member.ensures in
    let so = reads_more S.tells c.args.bridges.now c.reading.bridge-index b f c.reading.members c.push.new.self m (S.ids c.args.shelf.now) (S.ids c.reading.shelf) (S.ids c.read_member.new.shelf) c.reading-test.true c.bridge-item.is c.in_ok-push.ensures.ok
    (record { read = inv.read; names = inv.names; valid = inv.valid; sound = inv.sound; opened = inv.opened })
    (record {
      read = λ t. subst (λ (file : Files). HoldsMember file b m) (files_same f (S.file c.reading.shelf) inv.files) (one.read t);
      name = one.name;
      valid = one.valid;
      sound = one.sound;
      opened = one.opened;
    }) in
    record {
      read = so.read;
      names = so.names;
      valid = so.valid;
      sound = so.sound;
      opened = so.opened;
      files = λ n. one.files n ∙ inv.files n;
      same = one.faults.once ∙ inv.same;
    }

pub returns-clause-opened : goal.returns-clause-opened
returns-clause-opened g c =
    let S = g.S.Shelf in
    let inv = c.reading.invariant in
    topologies_end S.tells c.args.bridges.now c.reading.bridge-index (S.file c.args.shelf.now) c.reading.members c.reading.members (S.ids c.args.shelf.now) (S.ids c.reading.shelf) c.reading-test.false inv.read inv.opened
