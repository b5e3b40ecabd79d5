use Rattle.std.proofs.Common.{rules, ◌++◌, ℕ, List, [], ◌∷◌, refl, ap, sym, subst, ◌∙◌, arith}
use Rattle.std.proofs.lemmas.Result.{err_from_is_err_and}
use Rattle.exb_world_spec.specs.Worlds.{Left as Leaving}
use Rattle.exb_outbox.specs.PortMaps.{ports_in}
use Rattle.exb_outputs.specs.CaptureSizes.{HasSent, sent_more}
use Rattle.exb_outputs.specs.WrittenTexts.{HasTexts, pieces_of}
use Rattle.exb_outputs.proofs.CaptureSizes.{sent_as}
use Rattle.exb_outputs.proofs.ShelfEffects.{writes_from, writes_none, writes_then}
use Rattle.exb_outputs.specs.SentFrames.{sent_with_copies, with_copies}
use Rattle.exb_outputs.proofs.SentFrames.{all_copied, copies_on, copy_can, cut_on, no_copies, rest_can, sent_none, sent_on, texts_on}
use Rattle.exb_outputs.proofs.sent_frames.write_row.Goals as goal

pub loop-port-init : goal.loop-port-init
loop-port-init g c =
    let file = g.S.Shelf.file c.args.shelf.now in (
      [],
      record {
        all = refl;
        can = c.requires.frame;
        ready = c.requires.ready;
        texts = λ t orig text p. no_copies c.args.manifest.now orig file (pieces_of c.args.outputs.now) text p;
        sent = λ sent has. sent_as c.args.manifest.now c.args.outputs.now sent (sent_with_copies sent []) (sent_none sent) has;
        only = writes_none _ _ _ _;
        faults = search rules;
        counted = refl;
      },
    )

pub write_record-requires-clause-external : goal.write_record-requires-clause-external
write_record-requires-clause-external g c =
    (copy_can c.args.left.now c.in-Some.port (ports_in c.loop-port.rest) (ports_in c.next.new.self) c.in-Some.ensures.some c.args.manifest.now c.loop-port.invariant.1.can).port

pub write_record-requires-clause-low : goal.write_record-requires-clause-low
write_record-requires-clause-low g c =
    (copy_can c.args.left.now c.in-Some.port (ports_in c.loop-port.rest) (ports_in c.next.new.self) c.in-Some.ensures.some c.args.manifest.now c.loop-port.invariant.1.can).low

pub loop-port-preserved : goal.loop-port-preserved
loop-port-preserved g c =
    let S = g.S.Shelf in
    let manifest = c.args.manifest.now in
    let left = c.args.left.now in
    let port = c.in-Some.port in
    let ports = ports_in c.loop-port.rest in
    let rest = ports_in c.next.new.self in
    let is = c.in-Some.ensures.some in
    let done = c.loop-port.invariant.0 in
    let before = c.loop-port.invariant.1 in
    let put = c.in_ok-write_record.ensures in
    let bytes : List ℕ = c.as_slice-bytes.result.now in
    let record_is = c.requires.head ∙ ap (λ (xs : List ℕ). c.args.head.now ++ xs) (sym c.as_slice-bytes.ensures) in (
      done ++ record { port = port; moment = left.moment; bytes = left.bytes } ∷ [],
      record {
        all = copies_on left port ports rest is done before.all;
        can = rest_can left port ports rest is manifest before.can;
        ready = put.ready;
        texts = λ t orig text p.
            texts_on left port ports rest is manifest orig (S.file c.write_record.new.shelf) (pieces_of c.write_record.new.self) text done (c.args.head.now ++ bytes) record_is
            (put.texts t orig (with_copies text done) (before.texts t orig text p));
        sent = λ sent has.
            sent_on left port ports rest is manifest c.write_record.new.self sent done
            (subst (λ (xs : List ℕ). HasSent manifest c.write_record.new.self (sent_more (sent_with_copies sent done) port (left.moment, xs))) c.as_slice-bytes.ensures
            (put.sent left.moment (sent_with_copies sent done) (before.sent sent has)));
        only = writes_then _ _ _ _ _ _ _ _ before.only put.only;
        faults = search (arith, put.faults.none_fell, before.faults);
        counted = put.faults.once ∙ before.counted;
      },
    )

pub returns-in_err-write_record-clause-only : goal.returns-in_err-write_record-clause-only
returns-in_err-write_record-clause-only g c = writes_then _ _ _ _ _ _ _ _ c.loop-port.invariant.1.only c.in_err-write_record.ensures.only

pub returns-in_err-write_record-clause-cut : goal.returns-in_err-write_record-clause-cut
returns-in_err-write_record-clause-cut g c = λ t.
    let e = err_from_is_err_and c.from_residual.result c.from_residual.ensures.1 in
    rw e.1
    (λ orig text p.
    let done = c.loop-port.invariant.0 in
    let before = c.loop-port.invariant.1 in
    let record_is = c.requires.head ∙ ap (λ (xs : List ℕ). c.args.head.now ++ xs) (sym c.as_slice-bytes.ensures) in
    cut_on c.args.left.now c.in-Some.port (ports_in c.loop-port.rest) (ports_in c.next.new.self) c.in-Some.ensures.some c.args.manifest.now orig (g.S.Shelf.file c.write_record.new.shelf) text done
    (c.args.head.now ++ c.as_slice-bytes.result.now) record_is before.all
    (c.in_err-write_record.ensures.cut t orig (with_copies text done) (before.texts t orig text p)))

pub returns-in_err-write_record-clause-faults : goal.returns-in_err-write_record-clause-faults
returns-in_err-write_record-clause-faults g c =
    let e = err_from_is_err_and c.from_residual.result c.from_residual.ensures.1 in
    rw (e.1, e.2) (writes_from _ _ _ _ c.loop-port.invariant.1.counted c.in_err-write_record.ensures.faults)

pub returns-clause-texts : goal.returns-clause-texts
returns-clause-texts g c = λ t orig text p.
    subst (λ (xs : List Leaving). HasTexts c.args.manifest.now (pieces_of c.loop-port.outputs) orig (g.S.Shelf.file c.loop-port.shelf) (with_copies text xs))
    (all_copied c.args.left.now (ports_in c.loop-port.rest) c.loop-port.invariant.0 c.in_default.ensures.none c.loop-port.invariant.1.all) (c.loop-port.invariant.1.texts t orig text p)

pub returns-clause-sent : goal.returns-clause-sent
returns-clause-sent g c = λ sent has.
    subst (λ (xs : List Leaving). HasSent c.args.manifest.now c.loop-port.outputs (sent_with_copies sent xs))
    (all_copied c.args.left.now (ports_in c.loop-port.rest) c.loop-port.invariant.0 c.in_default.ensures.none c.loop-port.invariant.1.all) (c.loop-port.invariant.1.sent sent has)
