use Rattle.std.proofs.Common.{◌≡◌, ℕ, true, Err, ap, subst, sym}
use Rattle.std.proofs.lemmas.Result.{err_from_is_err_and}
use Rattle.exb_inputs.specs.Inputs.{is_named}
use Rattle.exb_inputs.proofs.ChangedPorts.{again-counts, again-port}
use Rattle.exb_timeline.specs.CaptureMerges.{ids_in}
use Rattle.exb_inputs.proofs.ReopenedCaptures.{named-more}
use Rattle.exb_inputs.proofs.Outcomes.{some_at}
use Rattle.exb_inputs.proofs.replay_start.open_one.Goals as goal

pub returns-clause-named : goal.returns-clause-named
returns-clause-named g c = λ all.
    let S = g.S.Shelf in
    let one = c.in_ok-add.ensures.id in
    named-more c.args.names.now c.unwrap-name.result.now c.args.one.now.port (S.ids c.args.shelf.now) (S.ids c.add.new.shelf) (ids_in c.args.captures.now) one.0 c.add.new.self.sources.items
    (some_at _ c.name_of.result c.unwrap-name.result c.unwrap-name.ensures c.name_of.ensures.found) c.add.ensures.opens one.1 one.2 c.in_ok-add.ensures.opened.each all

pub returns-in_err-add-clause-port : goal.returns-in_err-add-clause-port
returns-in_err-add-clause-port g c =
    let e = err_from_is_err_and c.from_residual.result c.from_residual.ensures.1 in
    let named : ℕ → Type 0 = λ q. is_named c.args.names.now q ≡ true in
    rw (e.1, e.2) (again-port named c.in_err-add.field-0.0 (λ p at is. subst named (sym (c.in_err-add.ensures.port_is p at (ap Err is))) c.requires.named))

pub returns-in_err-add-clause-faults : goal.returns-in_err-add-clause-faults
returns-in_err-add-clause-faults g c =
    let e = err_from_is_err_and c.from_residual.result c.from_residual.ensures.1 in
    rw (e.1, e.2) (again-counts c.in_err-add.field-0.0 _ _ c.in_err-add.ensures.faults c.in_err-add.ensures.counts)
