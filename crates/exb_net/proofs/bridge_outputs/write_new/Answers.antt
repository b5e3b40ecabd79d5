use Rattle.std.proofs.Common.{List, subst}
use Rattle.std.proofs.lemmas.Result.{err_from_is_err_and, on_err_weaker, on_ok_weaker}
use Rattle.exb_model.specs.declared.event.Event.{Event}
use Rattle.exb_outbox.specs.declared.log.Left.{Left}
use Rattle.exb_journal.specs.declared.file_names.OutputKind.TheVariants as output
use Rattle.exb_outputs.specs.CaptureSizes.{HasSent}
use Rattle.exb_outputs.specs.WrittenTexts.{AreCut, HasTexts, pieces_of, lines_of, with_more}
use Rattle.exb_outputs.specs.SentFrames.{sent_with, with_left_frames}
use Rattle.exb_outputs.proofs.CaptureSizes.{sent_same}
use Rattle.exb_outputs.proofs.ShelfEffects.{writes_from, writes_then}
use Rattle.exb_outputs.proofs.SentFrames.{cut_frames}
use Rattle.exb_net.proofs.bridge_outputs.write_new.Goals as goal

pub returns-clause-texts : goal.returns-clause-texts
returns-clause-texts g c tells =
    let manifest = c.args.manifest.now in
    let S = g.S.Shelf in
    on_ok_weaker c.write_left.result
    (λ last orig text held.
    let first = c.in_ok-write_events.ensures.texts tells orig text held in
    let second = last orig (with_more text output.Journal (lines_of c.events.result.now)) first in
    let n = c.args.world.now in
    let P = λ (es : List Event) (xs : List Left). HasTexts manifest (pieces_of c.write_left.new.outputs) orig (S.file c.write_left.new.shelf)
    (with_left_frames (with_more text output.Journal (lines_of es)) xs) in
    let one : P n.log.events c.left.result.now = subst (λ (es : List Event). P es c.left.result.now) c.events.ensures second in
    subst (λ (xs : List Left). P n.log.events xs) c.left.ensures one)
    (c.write_left.ensures.texts tells)

pub returns-clause-only : goal.returns-clause-only
returns-clause-only g c = writes_then _ _ _ _ _ _ _ _ c.in_ok-write_events.ensures.only c.write_left.ensures.only

pub returns-in_err-write_events-clause-cut : goal.returns-in_err-write_events-clause-cut
returns-in_err-write_events-clause-cut g c = λ t.
    let e = err_from_is_err_and c.from_residual.result c.from_residual.ensures.1 in
    rw e.1
    (λ orig text p.
    let manifest = c.args.manifest.now in
    let file = g.S.Shelf.file c.write_events.new.shelf in
    let n = c.args.world.now in
    let first = subst (λ (es : List Event). AreCut manifest orig file (with_more text output.Journal (lines_of es))) c.events.ensures (c.in_err-write_events.ensures.cut t orig text p) in
    cut_frames manifest orig file (with_more text output.Journal (lines_of n.log.events)) n.log.left first)

pub returns-clause-cut : goal.returns-clause-cut
returns-clause-cut g c tells =
    let manifest = c.args.manifest.now in
    let S = g.S.Shelf in
    on_err_weaker c.write_left.result
    (λ last orig text held.
    let first = c.in_ok-write_events.ensures.texts tells orig text held in
    let second = last orig (with_more text output.Journal (lines_of c.events.result.now)) first in
    let n = c.args.world.now in
    let P = λ (es : List Event) (xs : List Left). AreCut manifest orig (S.file c.write_left.new.shelf)
    (with_left_frames (with_more text output.Journal (lines_of es)) xs) in
    let one : P n.log.events c.left.result.now = subst (λ (es : List Event). P es c.left.result.now) c.events.ensures second in
    subst (λ (xs : List Left). P n.log.events xs) c.left.ensures one)
    (c.write_left.ensures.cut tells)

pub returns-clause-sent : goal.returns-clause-sent
returns-clause-sent g c =
    on_ok_weaker c.write_left.result
    (λ last sent has.
    let manifest = c.args.manifest.now in
    let first = sent_same manifest c.args.outputs.now c.write_events.new.outputs sent c.in_ok-write_events.ensures.same has in
    subst (λ (xs : List Left). HasSent manifest c.write_left.new.outputs (sent_with sent xs)) c.left.ensures (last sent first))
    c.write_left.ensures.sent

pub returns-clause-faults : goal.returns-clause-faults
returns-clause-faults g c = writes_from c.write_left.result _ _ _ c.in_ok-write_events.ensures.faults.once c.write_left.ensures.faults
