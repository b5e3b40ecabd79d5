use Rattle.std.proofs.Common.{rules, ◌<◌, ◌≤◌, List, length, refl, sym, subst, ◌∙◌, arith, inl, inr}
use Rattle.std.proofs.lemmas.Bool.{cases_lt}
use Rattle.std.proofs.lemmas.Option.{slice_get_within}
use Rattle.std.proofs.lemmas.Result.{err_from_is_err_and}
use Rattle.exb_outputs.specs.Manifests.{Listed}
use Rattle.exb_outputs.proofs.ShelfEffects.{writes_from}
use Rattle.exb_net.proofs.ListPlaces.{at_place, is_there, set_there}
use Rattle.exb_net.specs.WrittenOutputs.{AreAllFronts, AreNoted, AreManifestsApart, CanNote, IsMore, IsNoted, OnlyWritesAll, manifests_in}
use Rattle.exb_net.proofs.OutputsApart.{fronts_more, noted_all, noted_more, noted_skip, only_none, only_one, manifests-same-long, manifests_set, ready_more, upto_high, upto_none}
use Rattle.exb_net.proofs.net_player.note_all.Goals as goal

pub noting-init : goal.noting-init
noting-init g c =
    let S = g.S.Shelf in
    let desks = c.args.desks.now.items in
    record {
      manifests = refl;
      rest = λ b low. refl;
      ready = c.requires.ready;
      noted = λ told dones together more was. subst (AreNoted S.tells (S.file c.args.shelf.now) desks) (sym (upto_none told dones)) was;
      only = only_none _ _ _ _;
      faults = search rules;
      counted = refl;
    }

pub index_mut-requires : goal.index_mut-requires
index_mut-requires g c =
    let long = manifests-same-long c.noting.desks.items c.args.desks.now.items c.noting.invariant.manifests in
    omega (arith, long, c.requires.can.whole, c.in-Some.ensures.found.1, c.noting.desks.ok.0)

pub noting-smaller : goal.noting-smaller
noting-smaller g c = omega (arith, c.in-Some.ensures.found.0, c.in-Some.ensures.found.1)

pub note-requires-clause-ready : goal.note-requires-clause-ready
note-requires-clause-ready g c =
    let inv = c.noting.invariant in
    let items = c.noting.desks.items in
    let i = c.in-Some.bridge in
    let long = manifests-same-long items c.args.desks.now.items inv.manifests in
    let inside : i < length items = omega (arith, long, c.requires.can.whole, c.in-Some.ensures.found.1) in
    inv.ready.each i c.index_mut.result.now (at_place items i c.index_mut.result.now inside c.index_mut.ensures.value)

pub note-requires-clause-can : goal.note-requires-clause-can
note-requires-clause-can g c =
    let inv = c.noting.invariant in
    let items = c.noting.desks.items in
    let i = c.in-Some.bridge in
    let found = c.in-Some.ensures.found in
    let long = manifests-same-long items c.args.desks.now.items inv.manifests in
    let inside : i < length items = omega (arith, long, c.requires.can.whole, found.1) in
    let was = c.index_mut.result.now in
    let before = sym (inv.rest i found.0) ∙ at_place items i was inside c.index_mut.ensures.value in
    let node = is_there c.args.net.now.nodes.items i found.1 in
    subst (λ (w : _). CanNote was.manifest was.counted w) (sym (c.world.ensures node.0 node.1)) (c.requires.can.each i was node.0 before node.1)

pub noting-preserved : goal.noting-preserved
noting-preserved g c =
    let S = g.S.Shelf in
    let inv = c.noting.invariant in
    let items = c.noting.desks.items in
    let nodes = c.args.net.now.nodes.items in
    let i = c.in-Some.bridge in
    let found = c.in-Some.ensures.found in
    let long = manifests-same-long items c.args.desks.now.items inv.manifests in
    let inside : i < length items = omega (arith, long, c.requires.can.whole, found.1) in
    let within : i ≤ length nodes = omega (arith, found.1) in
    let was = c.index_mut.result.now in
    let at = at_place items i was inside c.index_mut.ensures.value in
    let node = is_there nodes i found.1 in
    let noted = c.in_ok-note.ensures in
    let now = c.note.new.desk in
    let apart : AreManifestsApart (manifests_in items) = subst AreManifestsApart (sym inv.manifests) c.requires.apart in
    record {
      manifests = manifests_set items i was now at noted.manifest ∙ inv.manifests;
      rest = λ b high. set_there items i b now (omega (arith, high)) ∙ inv.rest b (omega (arith, high, found.0));
      ready = ready_more (S.ids c.noting.shelf) (S.ids c.note.new.shelf) items i was now at noted.only.kept inv.ready noted.ready;
      noted = λ told dones together more all.
          noted_more S.tells (S.file c.noting.shelf) (S.file c.note.new.shelf) items i was now told dones apart at noted.only.others
          (noted_skip nodes S.tells (S.file c.noting.shelf) items c.noting.from i told dones found.0 within found.2 more (inv.noted told dones together more all))
          (λ own. noted.noted (told i) (dones i) (together.each i node.0 node.1) (subst (λ (w : _). IsMore (told i) (dones i) w) (sym (c.world.ensures node.0 node.1)) (more.each i node.0 node.1)) own);
      only =
          subst (λ (ps : List Listed). OnlyWritesAll S.tells ps (S.file c.args.shelf.now) (S.file c.note.new.shelf) (S.ids c.args.shelf.now) (S.ids c.note.new.shelf)) inv.manifests
          (only_one items apart i was at S.tells (S.file c.args.shelf.now) (S.file c.noting.shelf) (S.file c.note.new.shelf) (S.ids c.args.shelf.now) (S.ids c.noting.shelf) (S.ids c.note.new.shelf)
          (subst (λ (ps : List Listed). OnlyWritesAll S.tells ps (S.file c.args.shelf.now) (S.file c.noting.shelf) (S.ids c.args.shelf.now) (S.ids c.noting.shelf)) (sym inv.manifests) inv.only) noted.only);
      faults = search (arith, noted.faults.none_fell, inv.faults);
      counted = noted.faults.once ∙ inv.counted;
    }

pub returns-clause-noted : goal.returns-clause-noted
returns-clause-noted g c told dones together more was =
    let S = g.S.Shelf in
    let inv = c.noting.invariant in
    let items = c.noting.desks.items in
    let nodes = c.args.net.now.nodes.items in
    let n = length nodes in
    let all = inv.noted told dones together more was in
    let long = manifests-same-long items c.args.desks.now.items inv.manifests in
    elim (cases_lt c.noting.from n) [
      | inl low ↦
          noted_all S.tells (S.file c.noting.shelf) items n told dones (omega (arith, long, c.requires.can.whole))
          (noted_skip nodes S.tells (S.file c.noting.shelf) items c.noting.from n told dones (omega (arith, low)) (omega arith) c.in_default.ensures.none more all)
      | inr past ↦ noted_all S.tells (S.file c.noting.shelf) items c.noting.from told dones (omega (arith, long, c.requires.can.whole, past)) all
    ]

pub returns-in_err-note-clause-only : goal.returns-in_err-note-clause-only
returns-in_err-note-clause-only g c =
    let S = g.S.Shelf in
    let inv = c.noting.invariant in
    let items = c.noting.desks.items in
    let i = c.in-Some.bridge in
    let long = manifests-same-long items c.args.desks.now.items inv.manifests in
    let inside : i < length items = omega (arith, long, c.requires.can.whole, c.in-Some.ensures.found.1) in
    let was = c.index_mut.result.now in
    let at = at_place items i was inside c.index_mut.ensures.value in
    let apart : AreManifestsApart (manifests_in items) = subst AreManifestsApart (sym inv.manifests) c.requires.apart in
    subst (λ (ps : List Listed). OnlyWritesAll S.tells ps (S.file c.args.shelf.now) (S.file c.note.new.shelf) (S.ids c.args.shelf.now) (S.ids c.note.new.shelf)) inv.manifests
    (only_one items apart i was at S.tells (S.file c.args.shelf.now) (S.file c.noting.shelf) (S.file c.note.new.shelf) (S.ids c.args.shelf.now) (S.ids c.noting.shelf) (S.ids c.note.new.shelf)
    (subst (λ (ps : List Listed). OnlyWritesAll S.tells ps (S.file c.args.shelf.now) (S.file c.noting.shelf) (S.ids c.args.shelf.now) (S.ids c.noting.shelf)) (sym inv.manifests) inv.only) c.in_err-note.ensures.only)

pub returns-in_err-note-clause-cut : goal.returns-in_err-note-clause-cut
returns-in_err-note-clause-cut g c = λ t.
    let e = err_from_is_err_and c.from_residual.result c.from_residual.ensures.1 in
    rw e.1
    (λ told dones together more all.
    let S = g.S.Shelf in
    let inv = c.noting.invariant in
    let items = c.noting.desks.items in
    let nodes = c.args.net.now.nodes.items in
    let i = c.in-Some.bridge in
    let found = c.in-Some.ensures.found in
    let whole = c.requires.can.whole in
    let long = manifests-same-long items c.args.desks.now.items inv.manifests in
    let inside : i < length items = omega (arith, long, whole, found.1) in
    let within : i ≤ length nodes = omega (arith, found.1) in
    let was = c.index_mut.result.now in
    let at = at_place items i was inside c.index_mut.ensures.value in
    let node = is_there nodes i found.1 in
    let apart : AreManifestsApart (manifests_in items) = subst AreManifestsApart (sym inv.manifests) c.requires.apart in
    let noted = noted_skip nodes S.tells (S.file c.noting.shelf) items c.noting.from i told dones found.0 within found.2 more (inv.noted told dones together more all) in
    subst (λ (ps : List Listed). AreAllFronts ps (S.file c.note.new.shelf) dones) inv.manifests
    (fronts_more (S.file c.noting.shelf) (S.file c.note.new.shelf) items i was told dones apart at (c.in_err-note.ensures.only.others t) (λ b k is. (noted.each b k is).texts t)
    (λ b k is.
    let inside_b = slice_get_within items b k is in
    let x = is_there nodes b (omega (arith, inside_b, long, whole)) in
    (x.0.world, more.each b x.0 x.1))
    (c.in_err-note.ensures.cut t (told i) (dones i) (subst (λ (w : _). IsMore (told i) (dones i) w) (sym (c.world.ensures node.0 node.1)) (more.each i node.0 node.1))
    (subst (λ (d : _). IsNoted S.tells (S.file c.noting.shelf) was d) (upto_high i i told dones (omega arith)) (noted.each i was at)))))

pub returns-in_err-note-clause-faults : goal.returns-in_err-note-clause-faults
returns-in_err-note-clause-faults g c =
    let e = err_from_is_err_and c.from_residual.result c.from_residual.ensures.1 in
    rw (e.1, e.2) (writes_from _ _ _ _ c.noting.invariant.counted c.in_err-note.ensures.faults)

pub returns-in_err-note-clause-manifests : goal.returns-in_err-note-clause-manifests
returns-in_err-note-clause-manifests g c =
    let inv = c.noting.invariant in
    let items = c.noting.desks.items in
    let i = c.in-Some.bridge in
    let long = manifests-same-long items c.args.desks.now.items inv.manifests in
    let inside : i < length items = omega (arith, long, c.requires.can.whole, c.in-Some.ensures.found.1) in
    let was = c.index_mut.result.now in
    let at = at_place items i was inside c.index_mut.ensures.value in
    manifests_set items i was c.note.new.desk at c.in_err-note.ensures.manifest ∙ inv.manifests

pub returns-in_err-note-clause-ready : goal.returns-in_err-note-clause-ready
returns-in_err-note-clause-ready g c =
    let S = g.S.Shelf in
    let inv = c.noting.invariant in
    let items = c.noting.desks.items in
    let i = c.in-Some.bridge in
    let long = manifests-same-long items c.args.desks.now.items inv.manifests in
    let inside : i < length items = omega (arith, long, c.requires.can.whole, c.in-Some.ensures.found.1) in
    let was = c.index_mut.result.now in
    let at = at_place items i was inside c.index_mut.ensures.value in
    ready_more (S.ids c.noting.shelf) (S.ids c.note.new.shelf) items i was c.note.new.desk at c.in_err-note.ensures.only.kept inv.ready c.in_err-note.ensures.ready
