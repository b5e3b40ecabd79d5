use Rattle.std.proofs.Common.{rules, ◌<◌, take, length, arith, ◌≤◌, List, subst, ◌∙◌, refl}
use Rattle.std.proofs.lemmas.List.{take_all}
use Rattle.std.proofs.lemmas.Result.{err_from_is_err_and}
use Rattle.exb_model.specs.declared.event.Event.{Event}
use Rattle.exb_journal.specs.declared.file_names.OutputKind.TheVariants as output
use Rattle.exb_outputs.specs.WrittenTexts.{HasTexts, pieces_of, with_more, lines_of}
use Rattle.exb_outputs.proofs.WrittenTexts.{no_more}
use Rattle.exb_outputs.proofs.AppendedLines.{cut_lines, more_lines}
use Rattle.exb_outputs.proofs.CaptureSizes.{same_none, same_then}
use Rattle.exb_outputs.proofs.ShelfEffects.{writes_from, writes_none, writes_then}
use Rattle.exb_outputs.proofs.journal_lines.write_each.Goals as goal

pub loop-event-init : goal.loop-event-init
loop-event-init g c =
    let file = g.S.Shelf.file c.args.shelf.now in
    record {
      ready = c.requires.ready;
      texts = λ t orig text p. no_more c.args.manifest.now orig file (pieces_of c.args.outputs.now) text output.Journal p;
      same = same_none c.args.manifest.now c.args.outputs.now;
      only = writes_none _ _ _ _;
      faults = search rules;
      counted = refl;
    }

pub loop-event-preserved : goal.loop-event-preserved
loop-event-preserved g c =
    let before = c.loop-event.invariant in
    let added = c.in_ok-add_event.ensures in
    let events = c.args.events.now in
    let inside : c.loop-event.event-index < length events = omega arith in
    record {
      ready = added.ready;
      texts = λ t orig text p.
          more_lines c.args.manifest.now orig (g.S.Shelf.file c.add_event.new.shelf) (pieces_of c.add_event.new.outputs) text events c.loop-event.event-index c.event-item.result
          inside c.event-item.is
          (added.texts t orig (with_more text output.Journal (lines_of (take c.loop-event.event-index events))) (before.texts t orig text p));
      same = same_then c.args.manifest.now c.args.outputs.now _ _ before.same added.same;
      only = writes_then _ _ _ _ _ _ _ _ before.only added.only;
      faults = search (arith, added.faults.none_fell, before.faults);
      counted = added.faults.once ∙ before.counted;
    }

pub returns-in_err-add_event-clause-only : goal.returns-in_err-add_event-clause-only
returns-in_err-add_event-clause-only g c = writes_then _ _ _ _ _ _ _ _ c.loop-event.invariant.only c.in_err-add_event.ensures.only

pub returns-in_err-add_event-clause-cut : goal.returns-in_err-add_event-clause-cut
returns-in_err-add_event-clause-cut g c = λ t.
    let e = err_from_is_err_and c.from_residual.result c.from_residual.ensures.1 in
    rw e.1
    (λ orig text p.
    let before = c.loop-event.invariant in
    let events = c.args.events.now in
    cut_lines c.args.manifest.now orig (g.S.Shelf.file c.add_event.new.shelf) text events c.loop-event.event-index c.event-item.result (omega arith) c.event-item.is
    (c.in_err-add_event.ensures.cut t orig (with_more text output.Journal (lines_of (take c.loop-event.event-index events))) (before.texts t orig text p)))

pub returns-clause-texts : goal.returns-clause-texts
returns-clause-texts g c = λ t orig text p.
    let all : List Event = c.args.events.now in
    let end : length all ≤ c.loop-event.event-index = omega arith in
    subst (λ (xs : List Event). HasTexts c.args.manifest.now (pieces_of c.loop-event.outputs) orig (g.S.Shelf.file c.loop-event.shelf) (with_more text output.Journal (lines_of xs)))
    (take_all c.loop-event.event-index all end) (c.loop-event.invariant.texts t orig text p)

pub returns-in_err-add_event-clause-faults : goal.returns-in_err-add_event-clause-faults
returns-in_err-add_event-clause-faults g c =
    let e = err_from_is_err_and c.from_residual.result c.from_residual.ensures.1 in
    rw (e.1, e.2) (writes_from _ _ _ _ c.loop-event.invariant.counted c.in_err-add_event.ensures.faults)
