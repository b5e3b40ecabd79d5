use Rattle.std.proofs.Common.{rules, List, Err, ◌≡◌, ◌∙◌, ◌++◌, ◌∷◌, [], inl, inr, subst}
use Rattle.std.proofs.lemmas.Result.{err_from_is_err_and}
use Rattle.exb_shelf.specs.Files.{Files}
use Rattle.exb_inputs.specs.CaptureChecks.{AreChecked}
use Rattle.exb_net_file.specs.declared.members.NetMember.{NetMember}
use Rattle.exb_inputs.proofs.Outcomes.{files_same}
use Rattle.exb_inputs.proofs.ShelfEffects.{counts_as, counts_from, counts_memory}
use Rattle.exb_inputs.specs.MemberChecks.{AreAllMembersGood, AreGood, AreMembersChecked}
use Rattle.exb_inputs.specs.OpenedNetFiles.{EndsWithin, OpensCaptures, OpensEachOf}
use Rattle.exb_inputs.specs.NetRefusals.{IsOwnFault}
use Rattle.exb_inputs.proofs.MemberLoops.{captures_stop, checks_more}
use Rattle.exb_inputs.proofs.MemberCaptures.{below_done, ends_between, ends_here, first_here}
use Rattle.exb_inputs.proofs.OpenedNetFiles.{all_taken}
use Rattle.exb_inputs.proofs.member_captures.check_members.Goals as goal

pub returns-in_err-one-clause-flaw : goal.returns-in_err-one-clause-flaw
returns-in_err-one-clause-flaw g c t =
    let S = g.S.Shelf in
    let inv = c.checking.invariant in
    let m = c.member-item.result in
    let f = S.file c.args.shelf.now in
    let x = c.in_err-one.field-0.0 in
    let made = err_from_is_err_and c.from_residual.result c.from_residual.ensures.1 in
    rw (made.1, made.2) (elim (c.in_err-one.ensures.flaw t) [
      | inl own ↦ inl (first_here c.args.members.now c.checking.member-index m c.checking-test.true c.member-item.is f x (inv.good t) (subst (λ (file : Files). IsOwnFault m file x) (files_same f (S.file c.checking.shelf) inv.files) own))
      | inr failed ↦ inr failed
    ])

pub returns-in_err-one-clause-ends : goal.returns-in_err-one-clause-ends
returns-in_err-one-clause-ends g c =
    let S = g.S.Shelf in
    let inv = c.checking.invariant in
    let m = c.member-item.result in
    let f = S.file c.args.shelf.now in
    let x = c.in_err-one.field-0.0 in
    let made = err_from_is_err_and c.from_residual.result c.from_residual.ensures.1 in
    rw (made.1, made.2)
    (ends_here c.args.members.now c.checking.member-index m c.checking-test.true c.member-item.is S.tells f (S.ids c.args.shelf.now) (S.ids c.checking.shelf) (S.ids c.check_member.new.shelf) x inv.good inv.below
    (subst (λ (file : Files). EndsWithin S.tells m file (S.ids c.checking.shelf) (S.ids c.check_member.new.shelf) x) (files_same f (S.file c.checking.shelf) inv.files) c.in_err-one.ensures.ends))

pub returns-in_err-one-clause-opened : goal.returns-in_err-one-clause-opened
returns-in_err-one-clause-opened g c =
    let S = g.S.Shelf in
    captures_stop c.args.members.now c.checking.member-index c.member-item.result c.checking-test.true c.member-item.is (S.ids c.args.shelf.now) (S.ids c.checking.shelf) (S.ids c.check_member.new.shelf) c.checking.invariant.opened
    c.in_err-one.ensures.opened

pub returns-then-is_err-clause-ends : goal.returns-then-is_err-clause-ends
returns-then-is_err-clause-ends g c =
    let S = g.S.Shelf in
    let inv = c.checking.invariant in
    let m = c.member-item.result in
    let f = S.file c.args.shelf.now in
    let ms = c.args.members.now in
    let i = c.checking.member-index in
    ends_between S.tells ms i m c.checking-test.true c.member-item.is f (S.ids c.args.shelf.now) (S.ids c.check_member.new.shelf) inv.good
    (λ t. subst (λ (file : Files). AreGood m file) (files_same f (S.file c.checking.shelf) inv.files) (c.in_ok-one.ensures.good t))
    (below_done ms i m c.checking-test.true c.member-item.is (S.ids c.args.shelf.now) (S.ids c.checking.shelf) (S.ids c.check_member.new.shelf) inv.below c.in_ok-one.ensures.opened)

pub returns-then-is_err-clause-opened : goal.returns-then-is_err-clause-opened
returns-then-is_err-clause-opened g c =
    let S = g.S.Shelf in
    captures_stop c.args.members.now c.checking.member-index c.member-item.result c.checking-test.true c.member-item.is (S.ids c.args.shelf.now) (S.ids c.checking.shelf) (S.ids c.check_member.new.shelf) c.checking.invariant.opened
    c.in_ok-one.ensures.opened

pub checking-preserved : goal.checking-preserved
checking-preserved g c =
    let S = g.S.Shelf in
    let inv = c.checking.invariant in
    let m = c.member-item.result in
    let f = S.file c.args.shelf.now in
    let one = c.in_ok-one.ensures in
    let same = files_same f (S.file c.checking.shelf) inv.files in
    let pushed : c.push.new.self.items ≡ c.checking.checked.items ++ c.in_ok-one.one ∷ [] = search rules in
    let so = checks_more S.tells c.args.members.now c.checking.member-index m f c.checking.checked.items c.push.new.self.items c.in_ok-one.one (S.ids c.args.shelf.now) (S.ids c.checking.shelf) (S.ids c.check_member.new.shelf) c.checking-test.true
    c.member-item.is pushed
    (record { checked = inv.checked; good = inv.good; each = inv.each; opened = inv.opened; below = inv.below })
    (record {
      checked = subst (λ (file : Files). AreChecked S.tells m.topology.captures file c.in_ok-one.one.items) same one.checked;
      good = λ t. subst (λ (file : Files). AreGood m file) same (one.good t);
      each = one.each;
      opened = one.opened;
    }) in
    record {
      checked = so.checked;
      good = so.good;
      each = so.each;
      opened = so.opened;
      below = so.below;
      files = λ n. one.files n ∙ inv.files n;
      same = one.faults.once ∙ inv.same;
    }

pub returns-in_err-one-clause-faults : goal.returns-in_err-one-clause-faults
returns-in_err-one-clause-faults g c =
    let made = err_from_is_err_and c.from_residual.result c.from_residual.ensures.1 in
    let x = c.in_err-one.field-0.0 in
    rw (made.1, made.2) (counts_from (Err x) _ _ _ c.checking.invariant.same (counts_as x _ _ c.in_err-one.ensures.faults))

pub returns-then-is_err-clause-faults : goal.returns-then-is_err-clause-faults
returns-then-is_err-clause-faults g c = counts_memory _ _ (c.in_ok-one.ensures.faults.once ∙ c.checking.invariant.same)

pub returns-clause-checked : goal.returns-clause-checked
returns-clause-checked g c =
    let S = g.S.Shelf in
    let ms = c.args.members.now in
    subst (λ (xs : List NetMember). AreMembersChecked S.tells xs (S.file c.args.shelf.now) c.checking.checked.items) (all_taken ms c.checking.member-index c.checking-test.false) c.checking.invariant.checked

pub returns-clause-good : goal.returns-clause-good
returns-clause-good g c t =
    let S = g.S.Shelf in
    let ms = c.args.members.now in
    subst (λ (xs : List NetMember). AreAllMembersGood xs (S.file c.args.shelf.now)) (all_taken ms c.checking.member-index c.checking-test.false) (c.checking.invariant.good t)

pub returns-clause-each : goal.returns-clause-each
returns-clause-each g c =
    let S = g.S.Shelf in
    let ms = c.args.members.now in
    subst (λ (xs : List NetMember). OpensEachOf xs (S.ids c.args.shelf.now) (S.ids c.checking.shelf)) (all_taken ms c.checking.member-index c.checking-test.false) c.checking.invariant.each

pub returns-clause-opened : goal.returns-clause-opened
returns-clause-opened g c =
    let S = g.S.Shelf in
    let ms = c.args.members.now in
    subst (λ (xs : List NetMember). OpensCaptures xs (S.ids c.args.shelf.now) (S.ids c.checking.shelf)) (all_taken ms c.checking.member-index c.checking-test.false) c.checking.invariant.opened
