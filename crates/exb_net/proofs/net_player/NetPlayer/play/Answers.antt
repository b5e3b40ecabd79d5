use Rattle.std.proofs.Common.{◌∙◌, List, sym, subst, arith}
use Rattle.std.proofs.lemmas.Result.{err_from_is_err_and, on_err_weaker}
use Rattle.exb_inputs.specs.Answers.{fault_of}
use Rattle.exb_inputs.proofs.Outcomes.{if_err_map, if_ok_map, when_ok}
use Rattle.exb_inputs.proofs.ShelfEffects.{counts_from}
use Rattle.exb_outputs.specs.Manifests.{Listed}
use Rattle.exb_outputs.proofs.ShelfEffects.{fault_counts, is_writing}
use Rattle.exb_timeline.specs.NetMergeOrder.{all_ids, programmes_in}
use Rattle.exb_net.specs.NetStates.{no_dones}
use Rattle.exb_net.specs.WrittenOutputs.{AreManifestsApart, manifests_in}
use Rattle.exb_net.specs.ShelfEffects.{IsOfCaptures, OnlyGoesOnAll}
use Rattle.exb_net.proofs.OpenedNets.{opened-can, opened-cut, opened-going, opened-more, opened-together, unopened-cut}
use Rattle.exb_net.proofs.FateBounds.{falls_within, within_few}
use Rattle.exb_net.proofs.ShelfEffects.{err-own, kept-all, net-goes-none, net-goes-then, net-goes-writing, writing-changed, writing-never, writing-play}
use Rattle.exb_net.proofs.net_player.NetPlayer.play.Goals as goal

pub open-requires : goal.open-requires
open-requires g c =
    let t = c.requires.begins in
    record {
      few = within_few (λ x. (goal.Fate-dyn g (x.fate.vtable, x.fate.value)).left x.fate.value) c.args.self.now.net.nodes.items (programmes_in c.args.agenda.now)
          (let all = t.1.begun.holds.count in let same = t.1.begins.count in omega (arith, all, same)) c.requires.budget;
    }

pub note-requires-clause-ready : goal.note-requires-clause-ready
note-requires-clause-ready g c = c.requires.begins.1.desks.ready

pub note-requires-clause-apart : goal.note-requires-clause-apart
note-requires-clause-apart g c = (let was = c.requires.begins.1.desks in subst (λ (qs : List Listed). AreManifestsApart qs) (sym was.manifests) was.apart)

pub note-requires-clause-can : goal.note-requires-clause-can
note-requires-clause-can g c =
    let S = g.S.Shelf in
    let t = c.requires.begins in
    let ok = sym c.is_err.ensures.value ∙ c.if-is_err.false in
    opened-can S.tells t.0 (S.file c.args.shelf.now) (S.ids c.args.shelf.now) c.args.self.now (programmes_in c.args.agenda.now) t.1 c.open.new.self (when_ok c.open.result ok c.open.ensures.ok t.0.net t.1.begun)
    (when_ok c.open.result ok c.open.ensures.came) c.opened_nets_are_new.ensures c.opened_nets_run.ensures

pub play_on-requires-clause-agenda : goal.play_on-requires-clause-agenda
play_on-requires-clause-agenda g c =
    let S = g.S.Shelf in
    c.agendas_stay.ensures.stays (S.ids c.args.shelf.now) (S.ids c.note.new.shelf) c.args.agenda.now (kept-all (S.ids c.args.shelf.now) (S.ids c.note.new.shelf) c.note.ensures.only.kept (all_ids (programmes_in c.args.agenda.now))) c.requires.agenda

pub play_on-requires-clause-going : goal.play_on-requires-clause-going
play_on-requires-clause-going g c =
    let S = g.S.Shelf in
    let t = c.requires.begins in
    let r = t.0 in
    let ps = programmes_in c.args.agenda.now in
    let ok = sym c.is_err.ensures.value ∙ c.if-is_err.false in
    let o = when_ok c.open.result ok c.open.ensures.ok r.net t.1.begun in
    let came = when_ok c.open.result ok c.open.ensures.came in
    let noted = c.in_ok-note.ensures in
    let together = opened-together S.tells r (S.file c.args.shelf.now) (S.ids c.args.shelf.now) c.args.self.now ps t.1 c.open.new.self o came c.opened_nets_are_new.ensures c.opened_nets_run.ensures in
    let more = opened-more S.tells r (S.file c.args.shelf.now) (S.ids c.args.shelf.now) c.args.self.now ps t.1 c.open.new.self o came c.opened_nets_are_new.ensures c.opened_nets_run.ensures in (
      r,
      opened-going S.tells r (S.file c.args.shelf.now) (S.ids c.args.shelf.now) c.args.self.now ps t.1 c.open.new.self o came c.opened_nets_are_new.ensures c.opened_nets_run.ensures c.agendas_stay.ensures.told c.note.new.self
          (S.file c.note.new.shelf) (S.ids c.note.new.shelf) (noted.playing r.net o.dones (no_dones r.net) o.playing) noted.ready (noted.noted (no_dones r.net) o.dones together more t.1.noted) noted.manifests noted.came noted.only,
    )

pub play_on-requires-clause-budget : goal.play_on-requires-clause-budget
play_on-requires-clause-budget g c =
    let ok = sym c.is_err.ensures.value ∙ c.if-is_err.false in
    falls_within (λ x. (goal.Fate-dyn g (x.fate.vtable, x.fate.value)).left x.fate.value) c.open.new.self.nodes.items c.note.new.self.net.nodes.items (programmes_in c.args.agenda.now) c.in_ok-note.ensures.fates
    (falls_within (λ x. (goal.Fate-dyn g (x.fate.vtable, x.fate.value)).left x.fate.value) c.args.self.now.net.nodes.items c.open.new.self.nodes.items (programmes_in c.args.agenda.now) (when_ok c.open.result ok c.open.ensures.fates)
    c.requires.budget)

pub returns-clause-done : goal.returns-clause-done
returns-clause-done g c tells = if_ok_map c.play_on.result
    (λ line played r begin.
    let S = g.S.Shelf in
    let ps = programmes_in c.args.agenda.now in
    let ok = sym c.is_err.ensures.value ∙ c.if-is_err.false in
    let o = when_ok c.open.result ok c.open.ensures.ok r.net begin.begun in
    let came = when_ok c.open.result ok c.open.ensures.came in
    let noted = c.in_ok-note.ensures in
    let together = opened-together S.tells r (S.file c.args.shelf.now) (S.ids c.args.shelf.now) c.args.self.now ps begin c.open.new.self o came c.opened_nets_are_new.ensures c.opened_nets_run.ensures in
    let more = opened-more S.tells r (S.file c.args.shelf.now) (S.ids c.args.shelf.now) c.args.self.now ps begin c.open.new.self o came c.opened_nets_are_new.ensures c.opened_nets_run.ensures in
    played r
    (opened-going S.tells r (S.file c.args.shelf.now) (S.ids c.args.shelf.now) c.args.self.now ps begin c.open.new.self o came c.opened_nets_are_new.ensures c.opened_nets_run.ensures c.agendas_stay.ensures.told c.note.new.self
    (S.file c.note.new.shelf) (S.ids c.note.new.shelf) (noted.playing r.net o.dones (no_dones r.net) o.playing) noted.ready (noted.noted (no_dones r.net) o.dones together more begin.noted) noted.manifests noted.came noted.only))
    (c.play_on.ensures.done tells)

pub returns-then-is_err-clause-cut : goal.returns-then-is_err-clause-cut
returns-then-is_err-clause-cut g c = λ t r begin. unopened-cut g.S.Shelf.tells r (g.S.Shelf.file c.args.shelf.now) (g.S.Shelf.ids c.args.shelf.now) c.args.self.now (programmes_in c.args.agenda.now) t begin

pub returns-in_err-note-clause-cut : goal.returns-in_err-note-clause-cut
returns-in_err-note-clause-cut g c = λ t.
    let e = err_from_is_err_and c.from_residual.result c.from_residual.ensures.1 in
    rw e.1
    (λ r begin.
    let S = g.S.Shelf in
    let ps = programmes_in c.args.agenda.now in
    let ok = sym c.is_err.ensures.value ∙ c.if-is_err.false in
    let o = when_ok c.open.result ok c.open.ensures.ok r.net begin.begun in
    let came = when_ok c.open.result ok c.open.ensures.came in
    let together = opened-together S.tells r (S.file c.args.shelf.now) (S.ids c.args.shelf.now) c.args.self.now ps begin c.open.new.self o came c.opened_nets_are_new.ensures c.opened_nets_run.ensures in
    let more = opened-more S.tells r (S.file c.args.shelf.now) (S.ids c.args.shelf.now) c.args.self.now ps begin c.open.new.self o came c.opened_nets_are_new.ensures c.opened_nets_run.ensures in
    opened-cut S.tells r (S.file c.args.shelf.now) (S.ids c.args.shelf.now) c.args.self.now ps begin c.open.new.self o came c.opened_nets_are_new.ensures c.opened_nets_run.ensures t (S.file c.note.new.shelf)
    (c.in_err-note.ensures.cut t (no_dones r.net) o.dones together more begin.noted) (c.in_err-note.ensures.only.others t))

pub returns-clause-cut : goal.returns-clause-cut
returns-clause-cut g c = λ t. on_err_weaker c.play_on.result
    (λ cut r begin.
    let S = g.S.Shelf in
    let ps = programmes_in c.args.agenda.now in
    let ok = sym c.is_err.ensures.value ∙ c.if-is_err.false in
    let o = when_ok c.open.result ok c.open.ensures.ok r.net begin.begun in
    let came = when_ok c.open.result ok c.open.ensures.came in
    let noted = c.in_ok-note.ensures in
    let together = opened-together S.tells r (S.file c.args.shelf.now) (S.ids c.args.shelf.now) c.args.self.now ps begin c.open.new.self o came c.opened_nets_are_new.ensures c.opened_nets_run.ensures in
    let more = opened-more S.tells r (S.file c.args.shelf.now) (S.ids c.args.shelf.now) c.args.self.now ps begin c.open.new.self o came c.opened_nets_are_new.ensures c.opened_nets_run.ensures in
    cut r
    (opened-going S.tells r (S.file c.args.shelf.now) (S.ids c.args.shelf.now) c.args.self.now ps begin c.open.new.self o came c.opened_nets_are_new.ensures c.opened_nets_run.ensures c.agendas_stay.ensures.told c.note.new.self
    (S.file c.note.new.shelf) (S.ids c.note.new.shelf) (noted.playing r.net o.dones (no_dones r.net) o.playing) noted.ready (noted.noted (no_dones r.net) o.dones together more begin.noted) noted.manifests noted.came noted.only))
    (c.play_on.ensures.cut t)

pub returns-in_err-note-clause-never : goal.returns-in_err-note-clause-never
returns-in_err-note-clause-never g c t =
    let e = err_from_is_err_and c.from_residual.result c.from_residual.ensures.1 in
    rw (e.1, e.2) (λ change r begin. writing-never (fault_of c.in_err-note.field-0.0) (is_writing c.in_err-note.field-0.0) change)

pub returns-clause-never : goal.returns-clause-never
returns-clause-never g c tells = if_err_map c.play_on.result
    (λ fault never change r begin.
    let S = g.S.Shelf in
    let ps = programmes_in c.args.agenda.now in
    let ok = sym c.is_err.ensures.value ∙ c.if-is_err.false in
    let o = when_ok c.open.result ok c.open.ensures.ok r.net begin.begun in
    let came = when_ok c.open.result ok c.open.ensures.came in
    let noted = c.in_ok-note.ensures in
    let together = opened-together S.tells r (S.file c.args.shelf.now) (S.ids c.args.shelf.now) c.args.self.now ps begin c.open.new.self o came c.opened_nets_are_new.ensures c.opened_nets_run.ensures in
    let more = opened-more S.tells r (S.file c.args.shelf.now) (S.ids c.args.shelf.now) c.args.self.now ps begin c.open.new.self o came c.opened_nets_are_new.ensures c.opened_nets_run.ensures in
    never change r
    (opened-going S.tells r (S.file c.args.shelf.now) (S.ids c.args.shelf.now) c.args.self.now ps begin c.open.new.self o came c.opened_nets_are_new.ensures c.opened_nets_run.ensures c.agendas_stay.ensures.told c.note.new.self
    (S.file c.note.new.shelf) (S.ids c.note.new.shelf) (noted.playing r.net o.dones (no_dones r.net) o.playing) noted.ready (noted.noted (no_dones r.net) o.dones together more begin.noted) noted.manifests noted.came noted.only))
    (c.play_on.ensures.never tells)

pub returns-then-is_err-clause-only : goal.returns-then-is_err-clause-only
returns-then-is_err-clause-only g c = net-goes-none _ _ _ _ _

pub returns-in_err-note-clause-only : goal.returns-in_err-note-clause-only
returns-in_err-note-clause-only g c =
    let S = g.S.Shelf in
    net-goes-writing S.tells (manifests_in c.args.self.now.desks.items) (all_ids (programmes_in c.args.agenda.now)) _ _ _ _ _ _ (net-goes-none S.tells (manifests_in c.args.self.now.desks.items) (all_ids (programmes_in c.args.agenda.now)) (S.file c.args.shelf.now) (S.ids c.args.shelf.now))
    c.in_err-note.ensures.only

pub returns-clause-only : goal.returns-clause-only
returns-clause-only g c =
    let S = g.S.Shelf in
    net-goes-then S.tells (manifests_in c.args.self.now.desks.items) (all_ids (programmes_in c.args.agenda.now)) _ _ _ _ _ _ c.in_ok-note.ensures.only
    (subst (λ (qs : List Listed). OnlyGoesOnAll S.tells qs (all_ids (programmes_in c.args.agenda.now)) (S.file c.note.new.shelf) (S.file c.play_on.new.shelf) (S.ids c.note.new.shelf) (S.ids c.play_on.new.shelf)) c.in_ok-note.ensures.manifests c.play_on.ensures.only)

pub returns-in_err-note-clause-changed : goal.returns-in_err-note-clause-changed
returns-in_err-note-clause-changed g c name p at =
    let e = err_from_is_err_and c.from_residual.result c.from_residual.ensures.1 in
    rw (e.1, e.2) (λ is. writing-changed (IsOfCaptures c.args.rests.now (programmes_in c.args.agenda.now)) (fault_of c.in_err-note.field-0.0) (is_writing c.in_err-note.field-0.0) name p at (err-own _ _ is))

pub returns-in_err-note-clause-causes : goal.returns-in_err-note-clause-causes
returns-in_err-note-clause-causes g c =
    let e = err_from_is_err_and c.from_residual.result c.from_residual.ensures.1 in
    rw (e.1, e.2) (writing-play (fault_of c.in_err-note.field-0.0) (is_writing c.in_err-note.field-0.0))

pub returns-in_err-note-clause-faults : goal.returns-in_err-note-clause-faults
returns-in_err-note-clause-faults g c =
    let e = err_from_is_err_and c.from_residual.result c.from_residual.ensures.1 in
    rw (e.1, e.2) (fault_counts c.in_err-note.field-0.0 _ _ c.in_err-note.ensures.faults)

pub returns-clause-faults : goal.returns-clause-faults
returns-clause-faults g c = counts_from c.play_on.result _ _ _ c.in_ok-note.ensures.faults.once c.play_on.ensures.faults
