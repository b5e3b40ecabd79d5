use Rattle.std.proofs.Common.{◌⊎◌, sym, subst}
use Rattle.std.specs.Prelude.{IfErr, IfOk}
use Rattle.std.proofs.lemmas.Result.{err_from_is_err_and}
use Rattle.exb_shelf.specs.Files.{Files}
use Rattle.exb_inputs.specs.declared.fault.Fault.{Fault}
use Rattle.exb_inputs.proofs.Outcomes.{files_same}
use Rattle.exb_inputs.proofs.ShelfEffects.{counts_from}
use Rattle.exb_inputs.specs.declared.net_inputs.NetInputs.{NetInputs}
use Rattle.exb_inputs.specs.NetContents.{HoldsNet, HoldsNetFile}
use Rattle.exb_inputs.specs.NetRefusals.{IsNetRefused}
use Rattle.exb_inputs.proofs.OpenedNetFiles.{net_opened, net_unread}
use Rattle.exb_inputs.proofs.NetReadingSteps.{Failed, topologies_from}
use Rattle.exb_inputs.proofs.net_inputs.read_net.Goals as goal

pub returns-in_err-net-clause-opened : goal.returns-in_err-net-clause-opened
returns-in_err-net-clause-opened g c =
    let S = g.S.Shelf in
    let made = err_from_is_err_and c.from_residual.result c.from_residual.ensures.1 in
    rw (made.1, made.2) (net_unread S.tells c.args.name.now (S.file c.args.shelf.now) c.in_err-net.field-0.0 (S.ids c.args.shelf.now) (S.ids c.read_net_file.new.shelf) c.in_err-net.ensures.opened)

pub returns-clause-read : goal.returns-clause-read
returns-clause-read g c t =
    let S = g.S.Shelf in
    let name = c.args.name.now in
    let net = c.in_ok-net.net in
    let same = files_same (S.file c.args.shelf.now) (S.file c.read_net_file.new.shelf) c.in_ok-net.ensures.files in
    subst (λ (file : Files). IfOk c.read_named-inputs.result (λ (inputs : NetInputs). HoldsNet name file inputs.members inputs.wires)) same
    (c.read_named-inputs.ensures.read t name (subst (λ (file : Files). HoldsNetFile name file net) (sym same) (c.in_ok-net.ensures.read t)))

pub returns-clause-refused : goal.returns-clause-refused
returns-clause-refused g c t =
    let S = g.S.Shelf in
    let name = c.args.name.now in
    let net = c.in_ok-net.net in
    let same = files_same (S.file c.args.shelf.now) (S.file c.read_net_file.new.shelf) c.in_ok-net.ensures.files in
    subst (λ (file : Files). IfErr c.read_named-inputs.result (λ (x : Fault). IsNetRefused name file x ⊎ Failed x)) same
    (c.read_named-inputs.ensures.refused t name (subst (λ (file : Files). HoldsNetFile name file net) (sym same) (c.in_ok-net.ensures.read t)))

pub returns-clause-opened : goal.returns-clause-opened
returns-clause-opened g c =
    let S = g.S.Shelf in
    let f = S.file c.args.shelf.now in
    let net = c.in_ok-net.net in
    net_opened S.tells c.args.name.now f net c.read_named-inputs.result (S.ids c.args.shelf.now) (S.ids c.read_net_file.new.shelf) (S.ids c.read_named-inputs.new.shelf) c.in_ok-net.ensures.read c.in_ok-net.ensures.opened
    (topologies_from S.tells net.bridges f (S.file c.read_net_file.new.shelf) c.read_named-inputs.result (S.ids c.read_net_file.new.shelf) (S.ids c.read_named-inputs.new.shelf) c.in_ok-net.ensures.files c.read_named-inputs.ensures.opened)
    c.read_named-inputs.ensures.names

pub returns-clause-faults : goal.returns-clause-faults
returns-clause-faults g c = counts_from c.read_named-inputs.result _ _ _ c.in_ok-net.ensures.faults.once c.read_named-inputs.ensures.faults
