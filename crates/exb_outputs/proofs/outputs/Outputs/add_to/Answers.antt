use Rattle.std.proofs.Common.{◌≡◌, ◌<◌, ◌∙◌, length, refl, arith}
use Rattle.std.proofs.lemmas.Result.{on_err_weaker, on_ok_weaker}
use Rattle.exb_outputs.specs.Manifests.{kind_at, output_count, output_name}
use Rattle.exb_outputs.proofs.WrittenTexts.{by_kind, can_be_written, name_of_file, has_more_of, of_kind}
use Rattle.exb_outputs.proofs.OutputPrefixes.{cut_at, cut_kind}
use Rattle.exb_outputs.proofs.CaptureSizes.{grows_at, ready_with}
use Rattle.exb_outputs.proofs.outputs.Outputs.add_to.Goals as goal

pub add-requires : goal.add-requires
add-requires g c =
    let lt : c.args.at < output_count c.args.manifest.now = c.requires.within in
    let inside : c.args.at < length c.args.self.now.files.items = (let all = c.requires.ready.files in omega (arith, lt, all)) in
    can_be_written (g.S.Shelf.ids c.args.shelf.now) c.args.self.now.files.items c.args.at c.index_mut.result.now _ c.index_mut.ensures.value inside (c.requires.ready.named c.args.at lt)

pub returns-clause-texts : goal.returns-clause-texts
returns-clause-texts g c = λ t.
    let given = g.S.Shelf.ids c.args.shelf.now in
    let all = c.args.self.now.files.items in
    let lt : c.args.at < output_count c.args.manifest.now = c.requires.within in
    let inside : c.args.at < length all = omega arith in
    let was = c.index_mut.result.now in
    let named : (given was.id).name ≡ output_name c.args.manifest.now c.args.at = name_of_file given all c.args.at was _ c.index_mut.ensures.value inside (c.requires.ready.named c.args.at lt) in
    on_ok_weaker c.add.result
    (λ change orig text p.
    by_kind c.args.manifest.now orig (g.S.Shelf.file c.add.new.shelf) _ text c.args.at (kind_at c.args.manifest.now c.args.at) _ lt refl
    (has_more_of (λ f. f.piece.items) c.args.manifest.now orig (g.S.Shelf.file c.args.shelf.now) (g.S.Shelf.file c.add.new.shelf) all (of_kind c.args.manifest.now text) c.args.at
    was c.add.new.file _ _ (c.output_names_differ.ensures c.args.manifest.now) lt c.requires.ready.files c.index_mut.ensures.value named p change))
    (c.add.ensures.kept_or_written t)

pub returns-clause-cut : goal.returns-clause-cut
returns-clause-cut g c = λ t.
    let given = g.S.Shelf.ids c.args.shelf.now in
    let all = c.args.self.now.files.items in
    let lt : c.args.at < output_count c.args.manifest.now = c.requires.within in
    let inside : c.args.at < length all = omega arith in
    let was = c.index_mut.result.now in
    let named : (given was.id).name ≡ output_name c.args.manifest.now c.args.at = name_of_file given all c.args.at was _ c.index_mut.ensures.value inside (c.requires.ready.named c.args.at lt) in
    on_err_weaker c.add.result
    (λ front orig text p.
    cut_kind c.args.manifest.now orig (g.S.Shelf.file c.add.new.shelf) text c.args.at (kind_at c.args.manifest.now c.args.at) _ lt refl
    (cut_at (λ f. f.piece.items) c.args.manifest.now orig (g.S.Shelf.file c.args.shelf.now) (g.S.Shelf.file c.add.new.shelf) all (of_kind c.args.manifest.now text) c.args.at
    was _ _ (c.output_names_differ.ensures c.args.manifest.now) lt c.requires.ready.files c.index_mut.ensures.value named p front))
    (c.add.ensures.front t)

pub returns-clause-grows : goal.returns-clause-grows
returns-clause-grows g c =
    let inside : c.args.at < length c.args.self.now.files.items = (let lt = c.requires.within in let all = c.requires.ready.files in omega (arith, lt, all)) in
    on_ok_weaker c.add.result (λ size. grows_at c.args.self.now _ c.args.at _ c.index_mut.result.now c.add.new.file refl inside c.index_mut.ensures.value c.add.ensures.records size) c.add.ensures.counted

pub returns-clause-ready : goal.returns-clause-ready
returns-clause-ready g c =
    let inside : c.args.at < length c.args.self.now.files.items = (let lt = c.requires.within in let all = c.requires.ready.files in omega (arith, lt, all)) in
    ready_with c.args.manifest.now _ _ c.args.self.now _ c.args.at c.index_mut.result.now c.add.new.file refl inside c.index_mut.ensures.value c.add.ensures.id c.add.ensures.kept c.requires.ready

pub returns-clause-only : goal.returns-clause-only
returns-clause-only g c =
    let given = g.S.Shelf.ids c.args.shelf.now in
    let all = c.args.self.now.files.items in
    let lt : c.args.at < output_count c.args.manifest.now = c.requires.within in
    let inside : c.args.at < length all = (let ready = c.requires.ready.files in omega (arith, lt, ready)) in
    let was = c.index_mut.result.now in
    let named : (given was.id).name ≡ output_name c.args.manifest.now c.args.at = name_of_file given all c.args.at was _ c.index_mut.ensures.value inside (c.requires.ready.named c.args.at lt) in
    record { others = λ t m away. c.add.ensures.others t m (λ e. away c.args.at lt (e ∙ named)); kept = c.add.ensures.kept }
