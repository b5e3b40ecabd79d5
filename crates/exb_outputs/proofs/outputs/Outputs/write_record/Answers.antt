use Rattle.std.proofs.Common.{rules, ◌≡◌, ◌<◌, ◌+◌, ◌++◌, ℕ, length, length-append, get_or, set, ap, ◌∙◌, arith, refl}
use Rattle.std.proofs.lemmas.Result.{on_err_weaker, on_ok_weaker}
use Rattle.exb_journal.specs.declared.file_names.OutputKind.TheVariants as output
use Rattle.exb_outputs.specs.Manifests.{kind_at, output_count, output_name, place_in}
use Rattle.exb_outputs.proofs.WrittenTexts.{by_kind, can_be_written, has_more_of, name_of_file, of_kind}
use Rattle.exb_outputs.proofs.KindPlaces.{placed}
use Rattle.exb_outputs.proofs.OutputPrefixes.{cut_at, cut_kind}
use Rattle.exb_outputs.proofs.CaptureSizes.{frame_sent, ready_with}
use Rattle.exb_outputs.proofs.outputs.Outputs.write_record.Goals as goal

pub index_mut-file-requires : goal.index_mut-file-requires
index_mut-file-requires g c =
    let low = (placed c.args.manifest.now (output.Capture c.args.port) c.requires.external c.requires.low).low in
    let same = c.place-at.ensures in
    let all = c.requires.ready.files in
    omega (arith, low, same, all)

pub add_record-requires : goal.add_record-requires
add_record-requires g c =
    let at = c.place-at.result in
    let place = placed c.args.manifest.now (output.Capture c.args.port) c.requires.external c.requires.low in
    let lt : at < output_count c.args.manifest.now = (let low = place.low in let same = c.place-at.ensures in omega (arith, low, same)) in
    let inside : at < length c.args.self.now.files.items = (let all = c.requires.ready.files in omega (arith, lt, all)) in
    can_be_written (g.S.Shelf.ids c.args.shelf.now) c.args.self.now.files.items at c.index_mut-file.result.now _ c.index_mut-file.ensures.value inside (c.requires.ready.named at lt)

pub returns-clause-ready : goal.returns-clause-ready
returns-clause-ready g c =
    let lt = (placed c.args.manifest.now (output.Capture c.args.port) c.requires.external c.requires.low).low in
    let inside : c.place-at.result < length c.args.self.now.files.items = (let same = c.place-at.ensures in let all = c.requires.ready.files in omega (arith, lt, same, all)) in
    ready_with c.args.manifest.now _ _ c.args.self.now _ c.place-at.result c.index_mut-file.result.now c.add_record.new.file refl inside c.index_mut-file.ensures.value c.add_record.ensures.id c.add_record.ensures.kept c.requires.ready

pub returns-clause-texts : goal.returns-clause-texts
returns-clause-texts g c = λ t.
    let S = g.S.Shelf in
    let manifest = c.args.manifest.now in
    let at = c.place-at.result in
    let place = placed manifest (output.Capture c.args.port) c.requires.external c.requires.low in
    let lt : at < output_count manifest = (let low = place.low in let same = c.place-at.ensures in omega (arith, low, same)) in
    let all = c.args.self.now.files.items in
    let inside : at < length all = (let ready = c.requires.ready.files in omega (arith, lt, ready)) in
    let was = c.index_mut-file.result.now in
    let named : (S.ids c.args.shelf.now was.id).name ≡ output_name manifest at = name_of_file (S.ids c.args.shelf.now) all at was _ c.index_mut-file.ensures.value inside (c.requires.ready.named at lt) in
    on_ok_weaker c.add_record.result
    (λ change orig text p.
    by_kind manifest orig (S.file c.add_record.new.shelf) _ text at (output.Capture c.args.port) _ lt (ap (kind_at manifest) c.place-at.ensures ∙ place.at)
    (has_more_of (λ f. f.piece.items) manifest orig (S.file c.args.shelf.now) (S.file c.add_record.new.shelf) all (of_kind manifest text) at was c.add_record.new.file _ _
    (c.output_names_differ.ensures manifest) lt c.requires.ready.files c.index_mut-file.ensures.value named p change))
    (c.add_record.ensures.kept_or_written t)

pub returns-clause-cut : goal.returns-clause-cut
returns-clause-cut g c = λ t.
    let S = g.S.Shelf in
    let manifest = c.args.manifest.now in
    let at = c.place-at.result in
    let place = placed manifest (output.Capture c.args.port) c.requires.external c.requires.low in
    let lt : at < output_count manifest = (let low = place.low in let same = c.place-at.ensures in omega (arith, low, same)) in
    let all = c.args.self.now.files.items in
    let inside : at < length all = (let ready = c.requires.ready.files in omega (arith, lt, ready)) in
    let was = c.index_mut-file.result.now in
    let named : (S.ids c.args.shelf.now was.id).name ≡ output_name manifest at = name_of_file (S.ids c.args.shelf.now) all at was _ c.index_mut-file.ensures.value inside (c.requires.ready.named at lt) in
    on_err_weaker c.add_record.result
    (λ front orig text p.
    cut_kind manifest orig (S.file c.add_record.new.shelf) text at (output.Capture c.args.port) _ lt (ap (kind_at manifest) c.place-at.ensures ∙ place.at)
    (cut_at (λ f. f.piece.items) manifest orig (S.file c.args.shelf.now) (S.file c.add_record.new.shelf) all (of_kind manifest text) at was _ _
    (c.output_names_differ.ensures manifest) lt c.requires.ready.files c.index_mut-file.ensures.value named p front))
    (c.add_record.ensures.front t)

pub returns-clause-sent : goal.returns-clause-sent
returns-clause-sent g c =
    let manifest = c.args.manifest.now in
    let bytes = c.args.bytes.now in
    let at = c.place-at.result in
    let place = placed manifest (output.Capture c.args.port) c.requires.external c.requires.low in
    let all = c.args.self.now.files.items in
    let same : at ≡ place_in manifest.tree c.args.port = c.place-at.ensures in
    let inside : place_in manifest.tree c.args.port < length all = (let low = place.low in let ready = c.requires.ready.files in omega (arith, low, ready)) in
    let was = c.index_mut-file.result.now in
    let now = c.add_record.new.file in
    let long : length c.args.head.now ≡ 16 = search rules in
    let parts = length-append c.args.head.now bytes in
    let head : length (c.args.head.now ++ bytes) ≡ 16 + length bytes = omega (arith, long, parts) in
    on_ok_weaker c.add_record.result
    (λ size moment sent has.
    frame_sent manifest c.args.self.now _ c.args.port moment bytes was now (ap (λ (j : ℕ). set all j now) same) inside
    (c.index_mut-file.ensures.value ∙ ap (λ (j : ℕ). get_or all j was) same) c.add_record.ensures.records
    (λ fits. size (let fits' = fits in omega (arith, head, fits')) ∙ omega (arith, head)) c.requires.low c.requires.external sent has)
    c.add_record.ensures.counted

pub returns-clause-only : goal.returns-clause-only
returns-clause-only g c =
    let S = g.S.Shelf in
    let manifest = c.args.manifest.now in
    let at = c.place-at.result in
    let lt : at < output_count manifest = (let low = (placed manifest (output.Capture c.args.port) c.requires.external c.requires.low).low in let same = c.place-at.ensures in omega (arith, low, same)) in
    let all = c.args.self.now.files.items in
    let inside : at < length all = (let ready = c.requires.ready.files in omega (arith, lt, ready)) in
    let was = c.index_mut-file.result.now in
    let named : (S.ids c.args.shelf.now was.id).name ≡ output_name manifest at = name_of_file (S.ids c.args.shelf.now) all at was _ c.index_mut-file.ensures.value inside (c.requires.ready.named at lt) in
    record { others = λ t m away. c.add_record.ensures.others t m (λ e. away at lt (e ∙ named)); kept = c.add_record.ensures.kept }
