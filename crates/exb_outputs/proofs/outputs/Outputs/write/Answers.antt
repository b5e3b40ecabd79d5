use Rattle.std.proofs.Common.{ap, ◌∙◌, arith, ◌≤◌, refl}
use Rattle.std.proofs.lemmas.Result.{on_err_weaker, on_ok_weaker}
use Rattle.exb_outputs.specs.Manifests.{kind_at, port_count}
use Rattle.exb_outputs.specs.WrittenTexts.{pieces_of}
use Rattle.exb_outputs.proofs.CaptureSizes.{same_captures}
use Rattle.exb_outputs.proofs.KindPlaces.{stands_behind}
use Rattle.exb_outputs.proofs.WrittenTexts.{more_spelled}
use Rattle.exb_outputs.proofs.OutputPrefixes.{cut_spelled}
use Rattle.exb_outputs.proofs.outputs.Outputs.write.Goals as goal

pub add_to-requires-clause-within : goal.add_to-requires-clause-within
add_to-requires-clause-within g c =
    let low = (stands_behind c.args.manifest.now c.args.kind c.requires.behind c.requires.asked).low in
    let same = c.place_behind-at.ensures.value in
    omega (arith, same, low)

pub returns-clause-texts : goal.returns-clause-texts
returns-clause-texts g c = λ t.
    on_ok_weaker c.add_to.result
    (λ added orig text p.
    more_spelled c.args.manifest.now orig (g.S.Shelf.file c.add_to.new.shelf) (pieces_of c.add_to.new.self) text (kind_at c.args.manifest.now c.place_behind-at.result) c.args.kind _ _
    (ap (kind_at c.args.manifest.now) c.place_behind-at.ensures.value ∙ (stands_behind c.args.manifest.now c.args.kind c.requires.behind c.requires.asked).at) refl (added orig text p))
    (c.add_to.ensures.texts t)

pub returns-clause-cut : goal.returns-clause-cut
returns-clause-cut g c = λ t.
    on_err_weaker c.add_to.result
    (λ cut orig text p.
    cut_spelled c.args.manifest.now orig (g.S.Shelf.file c.add_to.new.shelf) text (kind_at c.args.manifest.now c.place_behind-at.result) c.args.kind _ _
    (ap (kind_at c.args.manifest.now) c.place_behind-at.ensures.value ∙ (stands_behind c.args.manifest.now c.args.kind c.requires.behind c.requires.asked).at) refl (cut orig text p))
    (c.add_to.ensures.cut t)

pub returns-clause-same : goal.returns-clause-same
returns-clause-same g c =
    let behind : port_count c.args.manifest.now ≤ c.place_behind-at.result = (let is = c.place_behind-at.ensures.value in omega (arith, is)) in
    on_ok_weaker c.add_to.result (λ grows. same_captures c.args.manifest.now _ _ _ _ behind grows) c.add_to.ensures.grows
