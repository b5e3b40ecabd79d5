use Rattle.std.proofs.Common.{List, ap, sym, subst, ◌∙◌, arith}
use Rattle.exb_model.specs.Texts.{Counts, summary_line}
use Rattle.exb_outputs.proofs.ShelfEffects.{fault_counts, is_writing}
use Rattle.exb_journal.specs.Tallies.{FitsTally}
use Rattle.exb_net.specs.declared.bridge_outputs.BridgeOutputs.{BridgeOutputs}
use Rattle.exb_net.specs.WrittenOutputs.{tallies_in}
use Rattle.exb_net.specs.Summaries.{added}
use Rattle.std.proofs.lemmas.Result.{err_from_is_err_and}
use Rattle.exb_net.proofs.OutputsApart.{whole_all_fronts}
use Rattle.exb_net.proofs.net_player.NetPlayer.end.Goals as goal

pub count_all-requires : goal.count_all-requires
count_all-requires g c =
    subst (λ (ds : List BridgeOutputs). FitsTally (added (tallies_in ds))) (sym c.as_slice.ensures.value)
    (subst (λ (cs : List Counts). FitsTally (added cs)) (sym c.in_ok-finish_all.ensures.tallies) c.requires.can.fits)

pub line-requires : goal.line-requires
line-requires g c =
    let counted = c.count_all.ensures ∙ ap (λ (ds : List BridgeOutputs). added (tallies_in ds)) c.as_slice.ensures.value ∙ ap added c.in_ok-finish_all.ensures.tallies in
    let relayed = ap (λ (k : Counts). k.relayed) counted in
    let ignored = ap (λ (k : Counts). k.ignored) counted in
    let few = c.requires.can.few in
    omega (arith, relayed, ignored, few)

pub returns-in_err-finish_all-clause-cut : goal.returns-in_err-finish_all-clause-cut
returns-in_err-finish_all-clause-cut g c = λ t.
    let e = err_from_is_err_and c.from_residual.result c.from_residual.ensures.1 in
    rw e.1 (c.in_err-finish_all.ensures.cut t)

pub returns-in_err-line-clause-cut : goal.returns-in_err-line-clause-cut
returns-in_err-line-clause-cut g c = λ t.
    let e = err_from_is_err_and c.from_residual-in_err-line.result c.from_residual-in_err-line.ensures.1 in
    rw e.1 (λ dones noted. whole_all_fronts (g.S.Shelf.file c.finish_all.new.shelf) c.args.self.now.desks.items dones (c.in_ok-finish_all.ensures.texts t dones noted))

pub returns-in_err-finish_all-clause-causes : goal.returns-in_err-finish_all-clause-causes
returns-in_err-finish_all-clause-causes g c =
    let e = err_from_is_err_and c.from_residual.result c.from_residual.ensures.1 in
    rw (e.1, e.2) (is_writing c.in_err-finish_all.field-0.0)

pub returns-in_err-finish_all-clause-faults : goal.returns-in_err-finish_all-clause-faults
returns-in_err-finish_all-clause-faults g c =
    let e = err_from_is_err_and c.from_residual.result c.from_residual.ensures.1 in
    rw (e.1, e.2) (fault_counts c.in_err-finish_all.field-0.0 _ _ c.in_err-finish_all.ensures.faults)

pub returns-clause-line : goal.returns-clause-line
returns-clause-line g c =
    let counted = c.count_all.ensures ∙ ap (λ (ds : List BridgeOutputs). added (tallies_in ds)) c.as_slice.ensures.value ∙ ap added c.in_ok-finish_all.ensures.tallies in
    c.in_ok-line.ensures ∙ ap summary_line counted
