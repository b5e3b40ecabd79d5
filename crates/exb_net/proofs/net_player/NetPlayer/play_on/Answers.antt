use Rattle.std.proofs.Common.{◌∙◌, List, Err, ap, sym, subst}
use Rattle.std.proofs.lemmas.Result.{err_from_is_err_and, on_err_weaker}
use Rattle.exb_inputs.proofs.Outcomes.{if_err_map, if_ok_both, if_ok_map}
use Rattle.exb_inputs.proofs.ShelfEffects.{counts_from}
use Rattle.exb_outputs.specs.Manifests.{Listed}
use Rattle.exb_timeline.specs.NetMergeOrder.{all_ids, programmes_in}
use Rattle.exb_net.specs.WrittenOutputs.{AreManifestsApart, OnlyWritesAll, manifests_in}
use Rattle.exb_net.specs.ShelfEffects.{IsOfCaptures}
use Rattle.exb_net.proofs.NetEnd.{ended, ended-cut}
use Rattle.exb_net.proofs.ShelfEffects.{err-own, net-goes-writing, writing-changed-all, writing-never, writing-play}
use Rattle.exb_net.proofs.net_player.NetPlayer.play_on.Goals as goal

pub end-requires-clause-apart : goal.end-requires-clause-apart
end-requires-clause-apart g c =
    let was = c.requires.going.1.is.desks in
    let all = c.in_ok-play_all.ensures.manifests ∙ was.manifests in
    subst (λ (qs : List Listed). AreManifestsApart qs) (sym all) was.apart

pub returns-clause-done : goal.returns-clause-done
returns-clause-done g c tells =
    let S = g.S.Shelf in
    if_ok_both c.end.result
    (λ line says texts r start.
    let all = c.in_ok-play_all.ensures.told tells r start in
    ended S.tells r (S.file c.play_all.new.shelf) (S.ids c.play_all.new.shelf) c.play_all.new.self all tells c.nets_are_played_eagerly.ensures c.counts_go_on.ensures (S.file c.end.new.shelf) _ (texts all.dones all.is.noted)
    (c.end.ensures.only.others tells) says)
    c.end.ensures.line (c.end.ensures.texts tells)

pub returns-clause-says : goal.returns-clause-says
returns-clause-says g c = if_ok_map c.end.result (λ line says. (_, says)) c.end.ensures.line

pub returns-in_err-play_all-clause-cut : goal.returns-in_err-play_all-clause-cut
returns-in_err-play_all-clause-cut g c = λ t.
    let e = err_from_is_err_and c.from_residual.result c.from_residual.ensures.1 in
    rw e.1 (c.in_err-play_all.ensures.cut t)

pub returns-clause-cut : goal.returns-clause-cut
returns-clause-cut g c = λ t. on_err_weaker c.end.result
    (λ cut r start.
    let S = g.S.Shelf in
    let all = c.in_ok-play_all.ensures.told t r start in
    ended-cut S.tells r (S.file c.play_all.new.shelf) (S.ids c.play_all.new.shelf) c.play_all.new.self all t (S.file c.end.new.shelf) (cut all.dones all.is.noted) (c.end.ensures.only.others t))
    (c.end.ensures.cut t)

pub returns-in_err-play_all-clause-never : goal.returns-in_err-play_all-clause-never
returns-in_err-play_all-clause-never g c t =
    let e = err_from_is_err_and c.from_residual.result c.from_residual.ensures.1 in
    rw (e.1, e.2) (c.in_err-play_all.ensures.never t)

pub returns-clause-never : goal.returns-clause-never
returns-clause-never g c tells = if_err_map c.end.result (λ fault causes change r start. writing-never fault causes change) c.end.ensures.causes

pub returns-clause-only : goal.returns-clause-only
returns-clause-only g c =
    let S = g.S.Shelf in
    net-goes-writing S.tells (manifests_in c.args.self.now.desks.items) (all_ids (programmes_in c.args.agenda.now)) _ _ _ _ _ _ c.in_ok-play_all.ensures.only
    (subst (λ (qs : List Listed). OnlyWritesAll S.tells qs (S.file c.play_all.new.shelf) (S.file c.end.new.shelf) (S.ids c.play_all.new.shelf) (S.ids c.end.new.shelf)) c.in_ok-play_all.ensures.manifests c.end.ensures.only)

pub returns-in_err-play_all-clause-changed : goal.returns-in_err-play_all-clause-changed
returns-in_err-play_all-clause-changed g c name p at =
    let e = err_from_is_err_and c.from_residual.result c.from_residual.ensures.1 in
    rw (e.1, e.2) (λ is. c.in_err-play_all.ensures.changed name p at (ap Err (err-own _ _ is)))

pub returns-clause-changed : goal.returns-clause-changed
returns-clause-changed g c = writing-changed-all (IsOfCaptures c.args.rests.now (programmes_in c.args.agenda.now)) c.end.result c.end.ensures.causes

pub returns-clause-causes : goal.returns-clause-causes
returns-clause-causes g c = if_err_map c.end.result (λ fault causes. writing-play fault causes) c.end.ensures.causes

pub returns-clause-faults : goal.returns-clause-faults
returns-clause-faults g c = counts_from c.end.result _ _ _ c.in_ok-play_all.ensures.faults.once c.end.ensures.faults
