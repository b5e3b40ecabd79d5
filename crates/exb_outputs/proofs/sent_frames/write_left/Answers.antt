use Rattle.std.proofs.Common.{rules, [], ◌<◌, take, length, arith, ◌≤◌, List, subst, ◌∙◌, refl}
use Rattle.std.proofs.lemmas.List.{take_all}
use Rattle.std.proofs.lemmas.Result.{err_from_is_err_and}
use Rattle.exb_outbox.specs.declared.log.Left.{Left}
use Rattle.exb_outputs.specs.CaptureSizes.{HasSent}
use Rattle.exb_outputs.specs.WrittenTexts.{HasTexts, pieces_of}
use Rattle.exb_outputs.specs.SentFrames.{sent_with, with_left_frames}
use Rattle.exb_outputs.proofs.SentFrames.{no_copies, more_frames, cut_left, frames_sent, sent_none}
use Rattle.exb_outputs.proofs.CaptureSizes.{sent_as}
use Rattle.exb_outputs.proofs.ShelfEffects.{writes_from, writes_none, writes_then}
use Rattle.exb_outputs.proofs.sent_frames.write_left.Goals as goal

pub loop-frame-init : goal.loop-frame-init
loop-frame-init g c =
    let file = g.S.Shelf.file c.args.shelf.now in
    record {
      ready = c.requires.ready;
      texts = λ t orig text p. no_copies c.args.manifest.now orig file (pieces_of c.args.outputs.now) text p;
      sent = λ sent has. sent_as c.args.manifest.now c.args.outputs.now sent (sent_with sent []) (sent_none sent) has;
      only = writes_none _ _ _ _;
      faults = search rules;
      counted = refl;
    }

pub loop-frame-preserved : goal.loop-frame-preserved
loop-frame-preserved g c =
    let before = c.loop-frame.invariant in
    let added = c.in_ok-add_left.ensures in
    let left = c.args.left.now in
    let inside : c.loop-frame.frame-index < length left = omega arith in
    record {
      ready = added.ready;
      texts = λ t orig text p.
          more_frames c.args.manifest.now orig (g.S.Shelf.file c.add_left.new.shelf) (pieces_of c.add_left.new.outputs) text left c.loop-frame.frame-index c.frame-item.result
          inside c.frame-item.is
          (added.texts t orig (with_left_frames text (take c.loop-frame.frame-index left)) (before.texts t orig text p));
      sent = λ sent has.
          frames_sent c.args.manifest.now c.add_left.new.outputs sent left c.loop-frame.frame-index c.frame-item.result inside c.frame-item.is
          (added.sent (sent_with sent (take c.loop-frame.frame-index left)) (before.sent sent has));
      only = writes_then _ _ _ _ _ _ _ _ before.only added.only;
      faults = search (arith, added.faults.none_fell, before.faults);
      counted = added.faults.once ∙ before.counted;
    }

pub returns-in_err-add_left-clause-only : goal.returns-in_err-add_left-clause-only
returns-in_err-add_left-clause-only g c = writes_then _ _ _ _ _ _ _ _ c.loop-frame.invariant.only c.in_err-add_left.ensures.only

pub returns-in_err-add_left-clause-cut : goal.returns-in_err-add_left-clause-cut
returns-in_err-add_left-clause-cut g c = λ t.
    let e = err_from_is_err_and c.from_residual.result c.from_residual.ensures.1 in
    rw e.1
    (λ orig text p.
    let before = c.loop-frame.invariant in
    let left = c.args.left.now in
    cut_left c.args.manifest.now orig (g.S.Shelf.file c.add_left.new.shelf) text left c.loop-frame.frame-index c.frame-item.result (omega arith) c.frame-item.is
    (c.in_err-add_left.ensures.cut t orig (with_left_frames text (take c.loop-frame.frame-index left)) (before.texts t orig text p)))

pub returns-clause-texts : goal.returns-clause-texts
returns-clause-texts g c = λ t orig text p.
    let all : List Left = c.args.left.now in
    let end : length all ≤ c.loop-frame.frame-index = omega arith in
    subst (λ (xs : List Left). HasTexts c.args.manifest.now (pieces_of c.loop-frame.outputs) orig (g.S.Shelf.file c.loop-frame.shelf) (with_left_frames text xs))
    (take_all c.loop-frame.frame-index all end) (c.loop-frame.invariant.texts t orig text p)

pub returns-clause-sent : goal.returns-clause-sent
returns-clause-sent g c = λ sent has.
    let all : List Left = c.args.left.now in
    let end : length all ≤ c.loop-frame.frame-index = omega arith in
    subst (λ (xs : List Left). HasSent c.args.manifest.now c.loop-frame.outputs (sent_with sent xs)) (take_all c.loop-frame.frame-index all end) (c.loop-frame.invariant.sent sent has)

pub returns-in_err-add_left-clause-faults : goal.returns-in_err-add_left-clause-faults
returns-in_err-add_left-clause-faults g c =
    let e = err_from_is_err_and c.from_residual.result c.from_residual.ensures.1 in
    rw (e.1, e.2) (writes_from _ _ _ _ c.loop-frame.invariant.counted c.in_err-add_left.ensures.faults)
