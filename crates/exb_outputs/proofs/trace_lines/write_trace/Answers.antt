use Rattle.std.proofs.Common.{rules, ◌<◌, take, length, arith, ◌≤◌, List, subst, ◌∙◌, refl, ap, sym}
use Rattle.std.proofs.lemmas.Bool.{false≢true}
use Rattle.std.proofs.lemmas.List.{take_all}
use Rattle.std.proofs.lemmas.Result.{err_from_is_err_and}
use Rattle.exb_model.specs.Traces.{TraceLine}
use Rattle.exb_model.specs.Traces.{trace_text}
use Rattle.exb_journal.specs.declared.file_names.OutputKind.TheVariants as output
use Rattle.exb_outputs.specs.WrittenTexts.{HasTexts, pieces_of, with_more}
use Rattle.exb_cli.specs.declared.invocations.Options.{Options}
use Rattle.exb_outputs.proofs.WrittenTexts.{no_more, not_written}
use Rattle.exb_outputs.proofs.AppendedLines.{cut_trace, more_trace}
use Rattle.exb_outputs.proofs.PortCounts.{asked_for, unasked}
use Rattle.exb_outputs.proofs.CaptureSizes.{same_none, same_then}
use Rattle.exb_outputs.proofs.ShelfEffects.{writes_from, writes_none, writes_then}
use Rattle.exb_outputs.proofs.trace_lines.write_trace.Goals as goal

pub loop-one-init : goal.loop-one-init
unfolding trace_text
loop-one-init g c =
    let file = g.S.Shelf.file c.args.shelf.now in
    record {
      ready = c.requires.ready;
      texts = λ t orig text p. no_more c.args.manifest.now orig file (pieces_of c.args.outputs.now) text output.Trace p;
      same = same_none c.args.manifest.now c.args.outputs.now;
      only = writes_none _ _ _ _;
      faults = search rules;
      counted = refl;
    }

pub loop-one-preserved : goal.loop-one-preserved
loop-one-preserved g c =
    let before = c.loop-one.invariant in
    let added = c.in_ok-add_line.ensures in
    let lines = c.args.lines.now in
    let inside : c.loop-one.one-index < length lines = omega arith in
    record {
      ready = added.ready;
      texts = λ t orig text p.
          more_trace c.args.manifest.now orig (g.S.Shelf.file c.add_line.new.shelf) (pieces_of c.add_line.new.outputs) text lines c.loop-one.one-index c.one-item.result
          inside c.one-item.is
          (added.texts t orig (with_more text output.Trace (trace_text (take c.loop-one.one-index lines))) (before.texts t orig text p));
      same = same_then c.args.manifest.now c.args.outputs.now _ _ before.same added.same;
      only = writes_then _ _ _ _ _ _ _ _ before.only added.only;
      faults = search (arith, added.faults.none_fell, before.faults);
      counted = added.faults.once ∙ before.counted;
    }

pub returns-in_err-add_line-clause-only : goal.returns-in_err-add_line-clause-only
returns-in_err-add_line-clause-only g c = writes_then _ _ _ _ _ _ _ _ c.loop-one.invariant.only c.in_err-add_line.ensures.only

pub returns-in_err-add_line-clause-cut : goal.returns-in_err-add_line-clause-cut
returns-in_err-add_line-clause-cut g c = λ t.
    let e = err_from_is_err_and c.from_residual.result c.from_residual.ensures.1 in
    rw e.1
    (λ orig text p.
    let before = c.loop-one.invariant in
    let lines = c.args.lines.now in
    cut_trace c.args.manifest.now orig (g.S.Shelf.file c.add_line.new.shelf) text lines c.loop-one.one-index c.one-item.result (omega arith) c.one-item.is
    (c.in_err-add_line.ensures.cut t orig (with_more text output.Trace (trace_text (take c.loop-one.one-index lines))) (before.texts t orig text p)))

pub returns-clause-texts : goal.returns-clause-texts
returns-clause-texts g c = λ t orig text p.
    let all : List TraceLine = c.args.lines.now in
    let end : length all ≤ c.loop-one.one-index = omega arith in
    subst (λ (xs : List TraceLine). HasTexts c.args.manifest.now (pieces_of c.loop-one.outputs) orig (g.S.Shelf.file c.loop-one.shelf) (with_more text output.Trace (trace_text xs)))
    (take_all c.loop-one.one-index all end) (c.loop-one.invariant.texts t orig text p)

pub returns-in_err-add_line-clause-faults : goal.returns-in_err-add_line-clause-faults
returns-in_err-add_line-clause-faults g c =
    let e = err_from_is_err_and c.from_residual.result c.from_residual.ensures.1 in
    rw (e.1, e.2) (writes_from _ _ _ _ c.loop-one.invariant.counted c.in_err-add_line.ensures.faults)

-- where no trace is asked for
pub returns-then-not-options-clause-texts : goal.returns-then-not-options-clause-texts
returns-then-not-options-clause-texts g c = λ tells orig text held.
    not_written c.args.manifest.now orig (g.S.Shelf.file c.args.shelf.now) (pieces_of c.args.outputs.now) text output.Trace (trace_text c.args.lines.now)
    (λ asked. false≢true (sym (unasked c.options.result.trace c.if-not-options.true) ∙ ap (λ (o : Options). o.trace) c.options.ensures ∙ asked)) held

pub returns-then-not-options-clause-same : goal.returns-then-not-options-clause-same
returns-then-not-options-clause-same g c = same_none c.args.manifest.now c.args.outputs.now

-- and where it is
pub add_line-requires-clause-traced : goal.add_line-requires-clause-traced
add_line-requires-clause-traced g c = sym (ap (λ (o : Options). o.trace) c.options.ensures) ∙ asked_for c.options.result.trace c.if-not-options.false
